use Rattle.js_literal.proofs.Laws.{one_literal, one_fault_of, never_both, some_literal}
use Rattle.js_literal.proofs.string.one_string_answer.Goals as goal

pub returns-clause-one_literal : goal.returns-clause-one_literal
returns-clause-one_literal c = one_literal

pub returns-clause-one_fault_of : goal.returns-clause-one_fault_of
returns-clause-one_fault_of c = one_fault_of

pub returns-clause-never_both : goal.returns-clause-never_both
returns-clause-never_both c = never_both

pub returns-clause-some_answer : goal.returns-clause-some_answer
returns-clause-some_answer c = some_literal
