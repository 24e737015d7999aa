use Rattle.std.proofs.Common.{◌∙◌}
use Rattle.js_lex.proofs.Runs.{not_utf8}
use Rattle.js_lex.proofs.lex.source_text.Goals as goal

pub returns-in-Err-clause-fault : goal.returns-in-Err-clause-fault
returns-in-Err-clause-fault c = (c.in-Err.ensures.cases.0, not_utf8 c.args.bytes.now c.valid_up_to.result (c.in-Err.ensures.cases.0) (c.valid_up_to.ensures ∙ c.in-Err.ensures.valid_len))
