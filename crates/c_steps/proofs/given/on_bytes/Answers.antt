use Rattle.std.proofs.Common.{◌∙◌, inl, inr}
use Rattle.heap_bytes.specs.Spellings.{spelling_units}
use Rattle.c_steps.proofs.given.on_bytes.Goals as goal

pub returns-in-Ok-clause-does : goal.returns-in-Ok-clause-does
returns-in-Ok-clause-does c = inr (spelling_units c.in-Ok.spelled, c.in-Ok.ensures.1, c.on_spelling.ensures.does)

pub returns-in-Err-clause-does : goal.returns-in-Err-clause-does
returns-in-Err-clause-does c = let call = c.left in inl (c.in-Err.at, call.ensures.answer ∙ c.not_utf8.ensures, c.in-Err.ensures, call.ensures.same)
