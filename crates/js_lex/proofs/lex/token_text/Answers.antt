use Rattle.js_lex.proofs.Texts.{all_spelled}
use Rattle.js_lex.proofs.lex.token_text.Goals as goal

pub returns : goal.returns
returns c = λ bytes ts h. all_spelled bytes 0 ts h.utf8 h.lexes
