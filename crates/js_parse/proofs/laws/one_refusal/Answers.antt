use Rattle.js_parse.proofs.Answered.{one_refusal}
use Rattle.js_parse.proofs.laws.one_refusal.Goals as goal

pub returns : goal.returns
returns c = one_refusal
