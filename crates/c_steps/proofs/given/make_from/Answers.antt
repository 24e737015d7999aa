use Rattle.std.proofs.Common.{refl}
use Rattle.heap_bytes.specs.Spellings.{spelling_units}
use Rattle.c_steps.proofs.Made.{makes}
use Rattle.c_steps.proofs.given.make_from.Goals as goal

pub returns-clause-makes : goal.returns-clause-makes
returns-clause-makes c = let call = c.make_from-answer in let e = call.ensures in
    makes c.held.result.now call.new.agent e.spends _ _ _ (spelling_units c.args.spelled.now) call.result
    c.held.ensures.value refl c.of_text.ensures.value e.marked e.units e.settled e.made
