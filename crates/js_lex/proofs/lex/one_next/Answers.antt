use Rattle.js_lex.proofs.OneNext.{one_next}
use Rattle.js_lex.proofs.lex.one_next.Goals as goal

pub returns : goal.returns
returns c = one_next
