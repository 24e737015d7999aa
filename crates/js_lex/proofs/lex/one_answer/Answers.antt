use Rattle.js_lex.proofs.OneList.{one_tokens, one_lex_fault, apart}
use Rattle.js_lex.proofs.SomeAnswer.{some_answer}
use Rattle.js_lex.proofs.lex.one_answer.Goals as goal

pub returns-clause-one_list : goal.returns-clause-one_list
returns-clause-one_list c = one_tokens

pub returns-clause-one_fault : goal.returns-clause-one_fault
returns-clause-one_fault c = one_lex_fault

pub returns-clause-not_both : goal.returns-clause-not_both
returns-clause-not_both c = apart

pub returns-clause-some_answer : goal.returns-clause-some_answer
returns-clause-some_answer c = some_answer
