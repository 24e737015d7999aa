use Rattle.std.proofs.Common.{◌⊎◌, ◌≡◌}
use Rattle.js_lex.specs.Tokens.{string, Fault, ElementAt}
use Rattle.js_lex.specs.declared.token.LexFault.TheVariants.{Memory}
use Rattle.js_lex.proofs.Steps.{literal_forward, fault_element}
use Rattle.js_lex.proofs.step.string.Goals as goal

pub returns-in-Ok : goal.returns-in-Ok
returns-in-Ok c = (string c.in-Ok.units c.in-Ok.end c.in-Ok.ensures.ok, literal_forward c.args.text.now c.args.at c.in-Ok.units c.in-Ok.end c.utf8.text c.in-Ok.ensures.ok)

pub returns-in-Err : goal.returns-in-Err
returns-in-Err c =
    let t : (c.lex_fault.result ≡ Memory) ⊎ ElementAt c.args.text.now c.args.at (Fault c.lex_fault.result) = rw c.lex_fault.ensures
    (fault_element c.args.text.now c.args.at c.in-Err.fault c.in-Err.ensures.err) in
    t
