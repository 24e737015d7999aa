use Rattle.eval_tree.proofs.Trees.{tree_of_chain}
use Rattle.js_eval.proofs.short.test_at_hand.Goals as goal

pub returns-in-Chain : goal.returns-in-Chain
returns-in-Chain g c =
    let w = c.truth_of_two.ensures in
    rw (c.in-Chain.is, tree_of_chain c.in-Chain.first c.in-Chain.rest) (rw (c.deref.ensures.value, c.deref-in-Chain.ensures) at w)
