use Rattle.std.proofs.lemmas.Result.{err_from_is_err_and}
use Rattle.js_store.proofs.Laws.{grows_trans}
use Rattle.eval_values.proofs.Still.{fine_still}
use Rattle.eval_values.proofs.Sums.{sum_does, first_ends, second_ends}
use Rattle.eval_values.specs.Settled.{ElementsSettled}
use Rattle.eval_values.proofs.Settled.{elements_still, on_ok_always}
use Rattle.eval_values.proofs.operators.plus_any.Goals as goal

pub returns-in_err-first-clause-did : goal.returns-in_err-first-clause-did
returns-in_err-first-clause-did g c =
    let state = g.S.Strings.state in
    let p = err_from_is_err_and c.from_residual.result c.from_residual.ensures.1 in
    rw (p.1, p.2) (first_ends g.S.Strings.number (state c.args.store.now) (state c.to_primitive.new.store) c.args.at c.args.left.now
    c.args.right.now c.in_err-first.field-0.0 c.in_err-first.ensures.did)

pub returns-in_err-second-clause-did : goal.returns-in_err-second-clause-did
returns-in_err-second-clause-did g c =
    let state = g.S.Strings.state in
    let p = err_from_is_err_and c.from_residual-in_err-second.result c.from_residual-in_err-second.ensures.1 in
    let e = c.in_ok-first.ensures in
    rw (p.1, p.2) (second_ends g.S.Strings.number (state c.args.store.now) (state c.to_primitive.new.store)
    (state c.to_primitive-2.new.store) c.args.at c.args.left.now c.args.right.now c.in_ok-first.first c.in_err-second.field-0.0 e.grows
    c.requires.right e.did c.in_err-second.ensures.did)

pub returns-clause-did : goal.returns-clause-did
returns-clause-did g c =
    let state = g.S.Strings.state in
    let e = c.in_ok-first.ensures in
    let f = c.in_ok-second.ensures in
    sum_does g.S.Strings.number (state c.args.store.now) (state c.to_primitive.new.store) (state c.to_primitive-2.new.store)
    (state c.plus_primitives.new.store) c.args.at c.args.left.now c.args.right.now c.in_ok-first.first c.in_ok-second.second
    c.plus_primitives.result e.grows f.grows c.requires.right e.fine e.did f.did c.plus_primitives.ensures.did

pub returns-clause-grows : goal.returns-clause-grows
returns-clause-grows g c = grows_trans (grows_trans c.in_ok-first.ensures.grows c.in_ok-second.ensures.grows) c.plus_primitives.ensures.grows

pub to_primitive-requires-2 : goal.to_primitive-requires-2
to_primitive-requires-2 g c = fine_still (g.S.Strings.state c.args.store.now) (g.S.Strings.state c.to_primitive.new.store)
    g.S.Strings.number c.in_ok-first.ensures.grows c.args.right.now c.requires.right

pub returns-clause-left_read : goal.returns-clause-left_read
returns-clause-left_read g c =
    let state = g.S.Strings.state in
    let number = g.S.Strings.number in
    let b = state c.to_primitive.new.store in
    let d = state c.plus_primitives.new.store in
    let e = c.in_ok-first.ensures in
    on_ok_always c.plus_primitives.result (ElementsSettled d number c.args.left.now)
    (elements_still number b d (grows_trans c.in_ok-second.ensures.grows c.plus_primitives.ensures.grows) c.args.left.now e.read)

pub returns-clause-right_read : goal.returns-clause-right_read
returns-clause-right_read g c =
    let state = g.S.Strings.state in
    let number = g.S.Strings.number in
    let d = state c.plus_primitives.new.store in
    on_ok_always c.plus_primitives.result (ElementsSettled d number c.args.right.now)
    (elements_still number (state c.to_primitive-2.new.store) d c.plus_primitives.ensures.grows c.args.right.now c.in_ok-second.ensures.read)

pub plus_primitives-requires-clause-left : goal.plus_primitives-requires-clause-left
plus_primitives-requires-clause-left g c = fine_still (g.S.Strings.state c.to_primitive.new.store) (g.S.Strings.state c.to_primitive-2.new.store)
    g.S.Strings.number c.in_ok-second.ensures.grows c.in_ok-first.first c.in_ok-first.ensures.fine
