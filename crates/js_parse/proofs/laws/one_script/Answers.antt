use Rattle.js_parse.proofs.Answered.{one_script}
use Rattle.js_parse.proofs.laws.one_script.Goals as goal

pub returns : goal.returns
returns c = one_script
