use Rattle.std.proofs.Common.{subst, sym}
use Rattle.heap_rule.specs.declared.view.View.{View}
use Rattle.heap_rule.specs.HeaderMoves.{MayThin}
use Rattle.test_heap.proofs.table_forwards.one_of_two_forwards.Goals as goal

pub forward-requires-clause-may : goal.forward-requires-clause-may
forward-requires-clause-may g c = let p = c.in-Some in subst (λ (y : View). MayThin y p.id p.old p.target) (sym c.split-right.ensures.left) p.ensures.may

pub forward-requires-2-clause-may : goal.forward-requires-2-clause-may
forward-requires-2-clause-may g c = let p = c.in-Some in subst (λ (y : View). MayThin y p.id p.old p.target) (sym c.split-right.ensures.right) p.ensures.may
