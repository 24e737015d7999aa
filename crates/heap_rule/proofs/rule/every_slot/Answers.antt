use Rattle.heap_rule.proofs.SlotTests.{differs_exactly, shut_exactly, possible_apart}
use Rattle.heap_rule.proofs.Possible.{possible_slot}
use Rattle.heap_rule.proofs.rule.every_slot.Goals as goal

pub returns-clause-differs : goal.returns-clause-differs
returns-clause-differs c = differs_exactly

pub returns-clause-shut : goal.returns-clause-shut
returns-clause-shut c = shut_exactly

pub returns-clause-fixed : goal.returns-clause-fixed
returns-clause-fixed c = possible_slot

pub returns-clause-apart : goal.returns-clause-apart
returns-clause-apart c = possible_apart
