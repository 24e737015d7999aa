use Rattle.heap_core.proofs.EveryRun.{runs_sound, made_sound, runs_keep, runs_legal}
use Rattle.heap_core.proofs.state.every_run.Goals as goal

pub returns-clause-sound : goal.returns-clause-sound
returns-clause-sound c = runs_sound

pub returns-clause-made : goal.returns-clause-made
returns-clause-made c = made_sound

pub returns-clause-units : goal.returns-clause-units
returns-clause-units c = runs_keep

pub returns-clause-legal : goal.returns-clause-legal
returns-clause-legal c = runs_legal
