use Rattle.std.proofs.Common.{◌≡◌, arith, rules}
use Rattle.std.specs.Prelude.{Some, None, ◌/◌, ◌%◌}
use Rattle.js_methods.proofs.Copies.{ok_map}
use Rattle.js_methods.proofs.Fill.{front_value, repeats_room, repeats_value, repeats_use, repeats_within, front_known, front_within, front_use, front_within_use, last_room, last_value, last_use}
use Rattle.js_methods.proofs.building.filled_by_doubling.Goals as goal

pub returns-then-whole-eq0-clause-value : goal.returns-then-whole-eq0-clause-value
returns-then-whole-eq0-clause-value g c =
    let none : c.args.room / c.len-size.result ≡ 0 = omega (arith, c.if-whole-eq0.true) in
    let value = front_value (g.S.Strings.state c.args.store.now) (g.S.Strings.state c.len-size.new.self) (g.S.Strings.number c.args.filler)
    c.args.room c.len-size.result c.requires.known c.len-size.ensures.value c.requires.units c.len-size.ensures.uses (g.S.Strings.state c.front.new.store) in
    ok_map c.front.result (λ r. value (g.S.Strings.number r) none) c.front.ensures.value

pub doubled-requires-clause-short : goal.doubled-requires-clause-short
doubled-requires-clause-short g c = repeats_room (g.S.Strings.state c.args.store.now) (g.S.Strings.state c.len-size.new.self)
    (g.S.Strings.number c.args.filler) c.args.room c.len-size.result c.requires.known c.len-size.ensures.value c.requires.units
    c.len-size.ensures.uses c.requires.short

pub returns-in_err-repeats-clause-uses : goal.returns-in_err-repeats-clause-uses
returns-in_err-repeats-clause-uses g c =
    let used = repeats_use (g.S.Strings.state c.args.store.now) (g.S.Strings.state c.len-size.new.self) (g.S.Strings.number c.args.filler)
    c.args.room c.len-size.result c.requires.known c.len-size.ensures.value c.requires.units c.len-size.ensures.uses
    (g.S.Strings.state c.doubled.new.store) (Some c.in_err-repeats.field-0.0) c.ranges.room.fits c.in_err-repeats.ensures.uses in
    let within = repeats_within (g.S.Strings.state c.args.store.now) (g.S.Strings.state c.len-size.new.self)
    (g.S.Strings.number c.args.filler) c.args.room c.len-size.result c.requires.known c.len-size.ensures.value c.requires.units
    c.len-size.ensures.uses (g.S.Strings.state c.doubled.new.store) (Some c.in_err-repeats.field-0.0) used in
    search rules

pub returns-then-part-eq0-clause-value : goal.returns-then-part-eq0-clause-value
returns-then-part-eq0-clause-value g c =
    let none : c.args.room % c.len-size.result ≡ 0 = omega (arith, c.if-part-eq0.true) in
    repeats_value (g.S.Strings.state c.args.store.now) (g.S.Strings.state c.len-size.new.self) (g.S.Strings.number c.args.filler)
    c.args.room c.len-size.result c.requires.known c.len-size.ensures.value c.requires.units c.len-size.ensures.uses
    (g.S.Strings.state c.doubled.new.store) (g.S.Strings.number c.in_ok-repeats.repeats) none c.in_ok-repeats.ensures.value

pub returns-then-part-eq0-clause-uses : goal.returns-then-part-eq0-clause-uses
returns-then-part-eq0-clause-uses g c =
    repeats_within (g.S.Strings.state c.args.store.now) (g.S.Strings.state c.len-size.new.self) (g.S.Strings.number c.args.filler)
    c.args.room c.len-size.result c.requires.known c.len-size.ensures.value c.requires.units c.len-size.ensures.uses
    (g.S.Strings.state c.doubled.new.store) None (repeats_use (g.S.Strings.state c.args.store.now) (g.S.Strings.state c.len-size.new.self)
    (g.S.Strings.number c.args.filler) c.args.room c.len-size.result c.requires.known c.len-size.ensures.value c.requires.units
    c.len-size.ensures.uses (g.S.Strings.state c.doubled.new.store) None c.ranges.room.fits c.in_ok-repeats.ensures.uses)

pub front-requires-2-clause-known : goal.front-requires-2-clause-known
front-requires-2-clause-known g c = front_known (g.S.Strings.state c.args.store.now) (g.S.Strings.state c.len-size.new.self)
    (g.S.Strings.number c.args.filler) c.args.room c.len-size.result c.requires.known c.len-size.ensures.value c.requires.units
    c.len-size.ensures.uses (g.S.Strings.state c.doubled.new.store) (g.S.Strings.number c.in_ok-repeats.repeats) c.in_ok-repeats.ensures.value
    (repeats_use (g.S.Strings.state c.args.store.now) (g.S.Strings.state c.len-size.new.self) (g.S.Strings.number c.args.filler) c.args.room
    c.len-size.result c.requires.known c.len-size.ensures.value c.requires.units c.len-size.ensures.uses
    (g.S.Strings.state c.doubled.new.store) None c.ranges.room.fits c.in_ok-repeats.ensures.uses)

pub front-requires-2-clause-within : goal.front-requires-2-clause-within
front-requires-2-clause-within g c = front_within (g.S.Strings.state c.args.store.now) (g.S.Strings.state c.len-size.new.self)
    (g.S.Strings.number c.args.filler) c.args.room c.len-size.result c.requires.known c.len-size.ensures.value c.requires.units
    c.len-size.ensures.uses (g.S.Strings.state c.doubled.new.store) (g.S.Strings.number c.in_ok-repeats.repeats) c.in_ok-repeats.ensures.value
    (repeats_use (g.S.Strings.state c.args.store.now) (g.S.Strings.state c.len-size.new.self) (g.S.Strings.number c.args.filler) c.args.room
    c.len-size.result c.requires.known c.len-size.ensures.value c.requires.units c.len-size.ensures.uses
    (g.S.Strings.state c.doubled.new.store) None c.ranges.room.fits c.in_ok-repeats.ensures.uses)

pub returns-in_err-rest-clause-uses : goal.returns-in_err-rest-clause-uses
returns-in_err-rest-clause-uses g c =
    let used = front_use (g.S.Strings.state c.args.store.now) (g.S.Strings.state c.len-size.new.self) (g.S.Strings.number c.args.filler)
    c.args.room c.len-size.result c.requires.known c.len-size.ensures.value c.requires.units c.len-size.ensures.uses
    (g.S.Strings.state c.doubled.new.store) (g.S.Strings.number c.in_ok-repeats.repeats) c.in_ok-repeats.ensures.value
    (repeats_use (g.S.Strings.state c.args.store.now) (g.S.Strings.state c.len-size.new.self) (g.S.Strings.number c.args.filler)
    c.args.room c.len-size.result c.requires.known c.len-size.ensures.value c.requires.units c.len-size.ensures.uses
    (g.S.Strings.state c.doubled.new.store) None c.ranges.room.fits c.in_ok-repeats.ensures.uses) (g.S.Strings.state c.front-2.new.store)
    (Some c.in_err-rest.field-0.0) c.in_err-rest.ensures.uses in
    let within = front_within_use (g.S.Strings.state c.args.store.now) (g.S.Strings.state c.len-size.new.self)
    (g.S.Strings.number c.args.filler) c.args.room c.len-size.result c.requires.known c.len-size.ensures.value c.requires.units
    c.len-size.ensures.uses (g.S.Strings.state c.doubled.new.store) (g.S.Strings.number c.in_ok-repeats.repeats)
    c.in_ok-repeats.ensures.value (repeats_use (g.S.Strings.state c.args.store.now) (g.S.Strings.state c.len-size.new.self)
    (g.S.Strings.number c.args.filler) c.args.room c.len-size.result c.requires.known c.len-size.ensures.value c.requires.units
    c.len-size.ensures.uses (g.S.Strings.state c.doubled.new.store) None c.ranges.room.fits c.in_ok-repeats.ensures.uses)
    (g.S.Strings.state c.front-2.new.store) (Some c.in_err-rest.field-0.0) used in
    search rules

pub joined-requires-clause-short : goal.joined-requires-clause-short
joined-requires-clause-short g c = last_room (g.S.Strings.state c.args.store.now) (g.S.Strings.state c.len-size.new.self)
    (g.S.Strings.number c.args.filler) c.args.room c.len-size.result c.requires.known c.len-size.ensures.value c.requires.units
    c.len-size.ensures.uses (g.S.Strings.state c.doubled.new.store) (g.S.Strings.number c.in_ok-repeats.repeats) c.in_ok-repeats.ensures.value
    (repeats_use (g.S.Strings.state c.args.store.now) (g.S.Strings.state c.len-size.new.self) (g.S.Strings.number c.args.filler) c.args.room
    c.len-size.result c.requires.known c.len-size.ensures.value c.requires.units c.len-size.ensures.uses
    (g.S.Strings.state c.doubled.new.store) None c.ranges.room.fits c.in_ok-repeats.ensures.uses) (g.S.Strings.state c.front-2.new.store)
    (g.S.Strings.number c.in_ok-rest.rest) c.in_ok-rest.ensures.value c.in_ok-rest.ensures.uses c.requires.short

pub returns-clause-value : goal.returns-clause-value
returns-clause-value g c =
    let value = last_value (g.S.Strings.state c.args.store.now) (g.S.Strings.state c.len-size.new.self) (g.S.Strings.number c.args.filler)
    c.args.room c.len-size.result c.requires.known c.len-size.ensures.value c.requires.units c.len-size.ensures.uses
    (g.S.Strings.state c.doubled.new.store) (g.S.Strings.number c.in_ok-repeats.repeats) c.in_ok-repeats.ensures.value
    (repeats_use (g.S.Strings.state c.args.store.now) (g.S.Strings.state c.len-size.new.self) (g.S.Strings.number c.args.filler)
    c.args.room c.len-size.result c.requires.known c.len-size.ensures.value c.requires.units c.len-size.ensures.uses
    (g.S.Strings.state c.doubled.new.store) None c.ranges.room.fits c.in_ok-repeats.ensures.uses) (g.S.Strings.state c.front-2.new.store)
    (g.S.Strings.number c.in_ok-rest.rest) c.in_ok-rest.ensures.value c.in_ok-rest.ensures.uses (g.S.Strings.state c.joined.new.store) in
    ok_map c.joined.result (λ r. value (g.S.Strings.number r)) c.joined.ensures.value

pub returns-clause-uses : goal.returns-clause-uses
returns-clause-uses g c =
    last_use (g.S.Strings.state c.args.store.now) (g.S.Strings.state c.len-size.new.self) (g.S.Strings.number c.args.filler) c.args.room
    c.len-size.result c.requires.known c.len-size.ensures.value c.requires.units c.len-size.ensures.uses
    (g.S.Strings.state c.doubled.new.store) (g.S.Strings.number c.in_ok-repeats.repeats) c.in_ok-repeats.ensures.value
    (repeats_use (g.S.Strings.state c.args.store.now) (g.S.Strings.state c.len-size.new.self) (g.S.Strings.number c.args.filler) c.args.room
    c.len-size.result c.requires.known c.len-size.ensures.value c.requires.units c.len-size.ensures.uses
    (g.S.Strings.state c.doubled.new.store) None c.ranges.room.fits c.in_ok-repeats.ensures.uses) (g.S.Strings.state c.front-2.new.store)
    (g.S.Strings.number c.in_ok-rest.rest) c.in_ok-rest.ensures.value c.in_ok-rest.ensures.uses (g.S.Strings.state c.joined.new.store) _ c.joined.ensures.uses
