use Rattle.eval_tree.proofs.Trees.{tree_of_chain}
use Rattle.js_eval.proofs.compared.two_sides.Goals as goal

pub returns-in-Chain-clause-tree : goal.returns-in-Chain-clause-tree
returns-in-Chain-clause-tree c =
    let w = c.sides_of.ensures.tree in
    rw (c.in-Chain.is, tree_of_chain c.in-Chain.first c.in-Chain.rest) (rw (c.deref.ensures.value, c.deref-in-Chain.ensures) at w)
