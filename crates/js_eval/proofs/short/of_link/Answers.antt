use Rattle.eval_tree.specs.Tree.{expr_tree}
use Rattle.js_eval.specs.Seen.{scope_of}
use Rattle.js_eval.proofs.AtHand.{short_does}
use Rattle.js_eval.proofs.short.of_link.Goals as goal

pub returns-clause-did : goal.returns-clause-did
returns-clause-did g c =
    let s = g.S.Strings.state c.args.store.now in
    let number = g.S.Strings.number in
    let l = c.args.link.now in
    short_does number s (scope_of s number c.args.context.now) (expr_tree c.args.first.now) (expr_tree l.right) l.at l.op c.in_ok-m.m
    c.in_ok-n.n c.of_both.result c.in_ok-m.ensures.did c.in_ok-n.ensures.did (c.needs_both.ensures c.if-not-needs_both.false)
    c.of_both.ensures.did c.of_both.ensures.fine
