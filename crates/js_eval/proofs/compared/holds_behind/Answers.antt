use Rattle.std.proofs.lemmas.Result.{err_from_is_err_and}
use Rattle.js_store.proofs.Laws.{grows_trans}
use Rattle.eval_tree.specs.Tree.{link_tree}
use Rattle.eval_values.proofs.Still.{fine_still}
use Rattle.js_eval.specs.Seen.{scope_of}
use Rattle.js_eval.proofs.Sides.{link_told, link_untold}
use Rattle.js_eval.proofs.Stays.{context_fine_still}
use Rattle.js_eval.proofs.compared.holds_behind.Goals as goal

pub holds_on-requires-clause-left : goal.holds_on-requires-clause-left
holds_on-requires-clause-left g c =
    let state = g.S.Strings.state in
    fine_still (state c.args.store.now) (state c.side.new.store) g.S.Strings.number c.in_ok-right.ensures.grows c.args.left.now c.requires.left

pub returns-in_err-right-clause-did : goal.returns-in_err-right-clause-did
returns-in_err-right-clause-did g c =
    let state = g.S.Strings.state in
    let a = state c.args.store.now in
    let p = err_from_is_err_and c.from_residual.result c.from_residual.ensures.1 in
    rw (p.1, p.2) (link_untold g.S.Strings.number a (state c.side.new.store) c.args.left.now c.in_err-right.field-0.0
    (link_tree c.args.link.now) (scope_of a g.S.Strings.number c.args.context.now) c.requires.both c.in_err-right.ensures.did)

pub returns-clause-grows : goal.returns-clause-grows
returns-clause-grows g c = grows_trans c.in_ok-right.ensures.grows c.holds_on.ensures.grows

pub returns-clause-context : goal.returns-clause-context
returns-clause-context g c =
    context_fine_still (g.S.Strings.state c.side.new.store) (g.S.Strings.state c.holds_on.new.store) g.S.Strings.number
    c.holds_on.ensures.grows c.args.context.now c.in_ok-right.ensures.context

pub returns-clause-did : goal.returns-clause-did
returns-clause-did g c =
    let state = g.S.Strings.state in
    link_told g.S.Strings.number (state c.args.store.now) (state c.side.new.store) (state c.holds_on.new.store) c.args.left.now
    c.in_ok-right.right c.holds_on.result (link_tree c.args.link.now) c.args.context.now c.in_ok-right.ensures.grows c.requires.left
    c.requires.both c.in_ok-right.ensures.did c.holds_on.ensures.did
