use Rattle.std.proofs.Common.{arith, ◌≡◌, ◌≤◌, length, true, nat_le}
use Rattle.js_item.proofs.Still.{fine_fields_still}
use Rattle.std.proofs.lemmas.Result.{err_from_is_err_and}
use Rattle.js_item.specs.Seen.{says, fields_mapped}
use Rattle.eval_values.proofs.TextArguments.{text_stops}
use Rattle.eval_members.specs.Properties.{key_out, own, got, given_as}
use Rattle.eval_members.proofs.Lookups.{property_does}
use Rattle.eval_members.proofs.properties.look_up_spelled.Goals as goal

pub look_up_own-requires-clause-fine : goal.look_up_own-requires-clause-fine
look_up_own-requires-clause-fine g c = fine_fields_still (g.S.Strings.state c.args.store.now) (g.S.Strings.state c.intern_units.new.store)
    c.in_ok-key.ensures.grows g.S.Strings.number c.args.object.now c.requires.fine

pub returns-clause-did : goal.returns-clause-did
returns-clause-did g c =
    let state = g.S.Strings.state in
    let a = state c.args.store.now in
    let e = c.in_ok-key.ensures in
    let l : length c.args.key.now ≤ a.limit = omega (arith, c.if-key-limit.false, c.limit.ensures.value) in
    let fits : nat_le (length c.args.key.now) a.limit ≡ true = grind (arith, l) in
    rw fits (property_does g.S.Strings.number a (state c.intern_units.new.store) (state c.look_up_own.new.store) e.grows c.args.object.now
    c.requires.fine c.in_ok-key.key c.args.key.now (given_as (λ v. v.now) c.look_up_own.result) e.did c.args.at c.look_up_own.ensures.did)

pub returns-in_err-key-clause-did : goal.returns-in_err-key-clause-did
returns-in_err-key-clause-did g c =
    let state = g.S.Strings.state in
    let number = g.S.Strings.number in
    let a = state c.args.store.now in
    let p = err_from_is_err_and c.from_residual.result c.from_residual.ensures.1 in
    let l : length c.args.key.now ≤ a.limit = omega (arith, c.if-key-limit.false, c.limit.ensures.value) in
    let fits : nat_le (length c.args.key.now) a.limit ≡ true = grind (arith, l) in
    rw (p.1, p.2, fits) (text_stops number a (state c.intern_units.new.store) c.in_err-key.field-0.0 (key_out c.args.key.now)
    (λ k. got c.args.at k (own k (fields_mapped (says a number) c.args.object.now))) c.in_err-key.ensures.did)
