use Rattle.std.proofs.Common.{inr}
use Rattle.js_lex.specs.Tokens.{number_fault}
use Rattle.js_lex.proofs.Steps.{number_forward}
use Rattle.js_lex.proofs.step.number.Goals as goal

pub returns-in-Ok : goal.returns-in-Ok
returns-in-Ok c = number_forward c.args.text.now c.args.at c.in-Ok.value c.in-Ok.end c.utf8.text c.in-Ok.ensures.ok

pub returns-in-Err : goal.returns-in-Err
returns-in-Err c = inr (number_fault c.in-Err.fault c.in-Err.ensures.err)
