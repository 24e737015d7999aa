use Rattle.js_parse.proofs.Answered.{no_refused_script}
use Rattle.js_parse.proofs.laws.no_refused_script.Goals as goal

pub returns : goal.returns
returns c = no_refused_script
