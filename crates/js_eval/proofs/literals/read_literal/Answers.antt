use Rattle.std.proofs.Common.{refl, ◌≡◌, slice_get, Some, length, ◌≤◌}
use Rattle.std.proofs.lemmas.Option.{slice_get-map, slice_get_past, slice_get_read}
use Rattle.js_store.specs.State.{IsKnown}
use Rattle.js_texts.proofs.Lists.{every_get}
use Rattle.js_eval.proofs.literals.read_literal.Goals as goal

pub returns-in-Some-clause-fine : goal.returns-in-Some-clause-fine
returns-in-Some-clause-fine g c =
    let h = c.in-Some.ensures.lookup in
    let e = c.deref.ensures.value in
    let found : slice_get c.args.context.now.literals.items c.args.number ≡ Some c.in-Some.s.now = rw (← e)
    (slice_get_read c.deref.result.now (length c.deref.result.now) c.args.number _ refl (h.3.0) (h.1)) in
    every_get (λ r. IsKnown (g.S.Strings.state c.args.store.now) (g.S.Strings.number r)) c.args.context.now.literals.items c.args.number c.in-Some.s.now c.requires.literals found

pub returns-in-None-clause-seen : goal.returns-in-None-clause-seen
returns-in-None-clause-seen g c =
    let h = c.in-None.ensures.lookup in
    let e = c.deref.ensures.value in
    let past : length c.args.context.now.literals.items ≤ c.args.number = rw (← e) h.3 in
    rw (slice_get-map, slice_get_past c.args.context.now.literals.items c.args.number past) refl
