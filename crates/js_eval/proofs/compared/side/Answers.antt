use Rattle.eval_tree.proofs.Trees.{tree_of_chain, tree_of_post}
use Rattle.js_eval.proofs.Expressions.{seen_does}
use Rattle.js_eval.proofs.Leaves.{tree_of_literal}
use Rattle.js_eval.proofs.compared.side.Goals as goal

pub returns-in-Literal-clause-did : goal.returns-in-Literal-clause-did
returns-in-Literal-clause-did g c =
    let d = c.read_literal.ensures in
    rw (c.in-Literal.is, tree_of_literal c.in-Literal.number) (seen_does g.S.Strings.number (g.S.Strings.state c.args.store.now) c.read_literal.result _ d.seen d.fine)

pub returns-in-Post-clause-did : goal.returns-in-Post-clause-did
returns-in-Post-clause-did g c =
    let w = c.side_with_steps.ensures.did in
    rw (c.in-Post.is, tree_of_post c.in-Post.of c.in-Post.steps) (rw (c.deref.ensures.value, c.deref-in-Post.ensures) at w)

pub returns-in-Chain-clause-did : goal.returns-in-Chain-clause-did
returns-in-Chain-clause-did g c =
    let w = c.chain.ensures.did in
    rw (c.in-Chain.is, tree_of_chain c.in-Chain.first c.in-Chain.rest) (rw (c.deref-in-Chain.ensures.value, c.deref-in-Chain-2.ensures) at w)
