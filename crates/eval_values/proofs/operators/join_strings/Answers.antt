use Rattle.std.proofs.lemmas.Result.{err_from_is_err_and}
use Rattle.js_store.proofs.Laws.{grows_trans}
use Rattle.eval_values.proofs.Still.{fine_still}
use Rattle.eval_values.proofs.Strings.{texts_join, first_stops, second_stops}
use Rattle.eval_values.proofs.operators.join_strings.Goals as goal

pub returns-in_err-a-clause-did : goal.returns-in_err-a-clause-did
returns-in_err-a-clause-did g c =
    let p = err_from_is_err_and c.from_residual.result c.from_residual.ensures.1 in
    let state = g.S.Strings.state in
    rw (p.1, p.2) (first_stops g.S.Strings.number (state c.args.store.now) (state c.to_text.new.store) c.args.left.now c.args.right.now c.in_err-a.field-0.0 c.in_err-a.ensures.did)

pub returns-in_err-b-clause-did : goal.returns-in_err-b-clause-did
returns-in_err-b-clause-did g c =
    let p = err_from_is_err_and c.from_residual-in_err-b.result c.from_residual-in_err-b.ensures.1 in
    let state = g.S.Strings.state in
    rw (p.1, p.2) (second_stops g.S.Strings.number (state c.args.store.now) (state c.to_text.new.store) (state c.to_text-2.new.store)
    c.args.left.now c.args.right.now c.in_ok-a.a c.in_err-b.field-0.0 c.in_ok-a.ensures.grows c.requires.right c.in_ok-a.ensures.did c.in_err-b.ensures.did)

pub returns-clause-did : goal.returns-clause-did
returns-clause-did g c =
    let state = g.S.Strings.state in
    texts_join g.S.Strings.number (state c.args.store.now) (state c.to_text.new.store) (state c.to_text-2.new.store)
    (state c.join.new.store) c.args.left.now c.args.right.now c.in_ok-a.a c.in_ok-b.b c.join.result c.in_ok-a.ensures.grows
    c.in_ok-b.ensures.grows c.requires.right c.in_ok-a.ensures.known c.in_ok-a.ensures.did c.in_ok-b.ensures.did c.join.ensures.did

pub to_text-requires-2 : goal.to_text-requires-2
to_text-requires-2 g c = fine_still (g.S.Strings.state c.args.store.now) (g.S.Strings.state c.to_text.new.store) g.S.Strings.number c.in_ok-a.ensures.grows c.args.right.now c.requires.right

pub returns-clause-grows : goal.returns-clause-grows
returns-clause-grows g c = grows_trans (grows_trans c.in_ok-a.ensures.grows c.in_ok-b.ensures.grows) c.join.ensures.grows
