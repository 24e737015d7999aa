use Rattle.js_parse.proofs.Answered.{some_answer}
use Rattle.js_parse.proofs.laws.some_answer.Goals as goal

pub returns : goal.returns
returns c = some_answer
