use Rattle.heap_rule.proofs.Legal.{legal}
use Rattle.heap_table.proofs.laws.every_moment.Goals as goal

pub returns-clause-sound : goal.returns-clause-sound
returns-clause-sound c k s h = h.0

pub returns-clause-legal : goal.returns-clause-legal
returns-clause-legal c k s h = legal k.size k.agents s.words s.views h.0
