use Rattle.std.proofs.Common.{arith}
use Rattle.js_store.proofs.Laws.{grows_refl}
use Rattle.eval_tree.specs.Tree.{expr_tree, steps_tree}
use Rattle.eval_tree.proofs.Trees.{tree_of_index}
use Rattle.js_eval.specs.Seen.{scope_of}
use Rattle.js_eval.proofs.Expressions.{index_does, one_does, post_does}
use Rattle.js_eval.proofs.Stays.{context_fine_still}
use Rattle.js_eval.proofs.compared.side_with_steps.Goals as goal

pub returns-in-Some-clause-context : goal.returns-in-Some-clause-context
returns-in-Some-clause-context g c =
    context_fine_still (g.S.Strings.state c.args.store.now) (g.S.Strings.state c.read_index.new.store) g.S.Strings.number
    c.read_index.ensures.grows c.args.context.now c.requires

pub returns-in-Some-clause-did : goal.returns-in-Some-clause-did
returns-in-Some-clause-did g c =
    let state = g.S.Strings.state in
    let number = g.S.Strings.number in
    let a = state c.args.store.now in
    let b = state c.read_index.new.store in
    let s = scope_of a number c.args.context.now in
    let r = c.read_index.result in
    let index = index_does number a a b c.in-Some.value.now c.in-Some.index.now r c.in-Index.at (expr_tree c.in-Index.index) c.args.context.now
    (grows_refl a) c.in-Some.ensures.fine c.in-Some.ensures.second_did c.read_index.ensures.did in
    post_does number a a b c.in-Some.value.now r (expr_tree c.args.of.now) (steps_tree c.args.steps.now) c.args.context.now (grows_refl a) c.requires c.in-Some.ensures.did
    (one_does number a b c.in-Some.value.now c.args.steps.now c.index-steps-0.result s (omega arith) c.index-steps-0.is r
    c.read_index.ensures.fine (rw (c.in-Index.is, tree_of_index c.in-Index.at c.in-Index.index) index))
