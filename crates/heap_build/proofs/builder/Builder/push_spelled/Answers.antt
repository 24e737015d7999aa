use Rattle.std.proofs.Common.{inl, refl}
use Rattle.heap_build.proofs.Given.{spelling_up_to}
use Rattle.heap_build.proofs.Surrogates.{spelled_units}
use Rattle.heap_build.proofs.builder.Builder.push_spelled.Goals as goal

pub returns-in-Ok-push_measured-clause-added : goal.returns-in-Ok-push_measured-clause-added
returns-in-Ok-push_measured-clause-added c = (_, spelled_units c.args.encoding c.args.bytes.now c.in-Ok.ensures.0, c.in-Ok-push_measured.ensures.added)

pub returns-in-Err-push_measured-clause-added : goal.returns-in-Err-push_measured-clause-added
returns-in-Err-push_measured-clause-added c = inl (_, spelled_units c.args.encoding c.args.bytes.now c.in-Ok.ensures.0, c.in-Err-push_measured.ensures.added)

pub returns-in-Err-clause-added : goal.returns-in-Err-clause-added
returns-in-Err-clause-added c = (refl, spelling_up_to c.args.encoding c.args.bytes.now c.in-Err.at c.in-Err.ensures)
