use Rattle.std.proofs.lemmas.Result.{err_from_is_err_and}
use Rattle.js_store.proofs.Laws.{grows_trans}
use Rattle.eval_tree.specs.Tree.{expr_tree, link_tree}
use Rattle.js_eval.specs.Seen.{scope_of}
use Rattle.js_eval.proofs.Sides.{sides_do, sides_stop}
use Rattle.js_eval.proofs.compared.holds_of_two.Goals as goal

pub returns-in_err-left-clause-did : goal.returns-in_err-left-clause-did
returns-in_err-left-clause-did g c =
    let state = g.S.Strings.state in
    let a = state c.args.store.now in
    let p = err_from_is_err_and c.from_residual.result c.from_residual.ensures.1 in
    rw (p.1, p.2) (sides_stop g.S.Strings.number a (state c.side.new.store) c.in_err-left.field-0.0 (expr_tree c.args.first.now)
    (link_tree c.args.link.now) (scope_of a g.S.Strings.number c.args.context.now) c.in_err-left.ensures.did)

pub returns-clause-grows : goal.returns-clause-grows
returns-clause-grows g c = grows_trans c.in_ok-left.ensures.grows c.holds_behind.ensures.grows

pub returns-clause-did : goal.returns-clause-did
returns-clause-did g c =
    let state = g.S.Strings.state in
    sides_do g.S.Strings.number (state c.args.store.now) (state c.side.new.store) (state c.holds_behind.new.store) c.in_ok-left.left
    c.holds_behind.result (expr_tree c.args.first.now) (link_tree c.args.link.now) c.args.context.now c.in_ok-left.ensures.grows
    c.requires.context c.in_ok-left.ensures.did c.holds_behind.ensures.did
