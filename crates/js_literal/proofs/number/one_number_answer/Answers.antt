use Rattle.js_literal.proofs.NumberLaws.{one_number, one_number_fault, no_number, some_number}
use Rattle.js_literal.proofs.number.one_number_answer.Goals as goal

pub returns-clause-one_number : goal.returns-clause-one_number
returns-clause-one_number c = one_number

pub returns-clause-one_fault : goal.returns-clause-one_fault
returns-clause-one_fault c = one_number_fault

pub returns-clause-never_both : goal.returns-clause-never_both
returns-clause-never_both c = no_number

pub returns-clause-some_answer : goal.returns-clause-some_answer
returns-clause-some_answer c = some_number
