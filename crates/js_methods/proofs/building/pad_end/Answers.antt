use Rattle.std.proofs.Common.{◌≡◌, ◌≤◌, ◌∙◌, true, false, sym, arith, length, rules}
use Rattle.std.specs.Prelude.{Some, None}
use Rattle.js_store.specs.State.{text}
use Rattle.js_methods.proofs.Padded.{few_units, filler_units, filler_cut, end_value, pad_use}
use Rattle.js_methods.proofs.building.pad_end.Goals as goal

pub end_at_once-requires-clause-units : goal.end_at_once-requires-clause-units
end_at_once-requires-clause-units g c =
    let some : 1 ≤ c.in_ok-room.room = omega (arith, c.if-room-eq0.false) in
    filler_units (g.S.Strings.state c.args.store.now) (g.S.Strings.state c.missing.new.store) (g.S.Strings.number c.args.s)
    (g.S.Strings.number c.args.filler) c.args.max c.in_ok-room.room c.requires.known c.requires.filler_known c.in_ok-room.ensures.uses
    c.in_ok-room.ensures.value some

pub filled-requires-clause-units : goal.filled-requires-clause-units
filled-requires-clause-units g c =
    let some : 1 ≤ c.in_ok-room.room = omega (arith, c.if-room-eq0.false) in
    filler_units (g.S.Strings.state c.args.store.now) (g.S.Strings.state c.missing.new.store) (g.S.Strings.number c.args.s)
    (g.S.Strings.number c.args.filler) c.args.max c.in_ok-room.room c.requires.known c.requires.filler_known c.in_ok-room.ensures.uses
    c.in_ok-room.ensures.value some

pub returns-in_err-joined-clause-uses : goal.returns-in_err-joined-clause-uses
returns-in_err-joined-clause-uses g c =
    let some : 1 ≤ c.in_ok-room.room = omega (arith, c.if-room-eq0.false) in
    let used = pad_use (g.S.Strings.state c.args.store.now) (g.S.Strings.state c.missing.new.store) (g.S.Strings.number c.args.s)
    (g.S.Strings.number c.args.filler) c.args.max c.in_ok-room.room c.requires.known c.requires.filler_known c.in_ok-room.ensures.uses
    c.in_ok-room.ensures.value some (g.S.Strings.state c.filled.new.store) (g.S.Strings.number c.in_ok-fill.fill)
    c.in_ok-fill.ensures.value c.in_ok-fill.ensures.uses (g.S.Strings.state c.joined.new.store) (Some c.in_err-joined.field-0.0)
    c.in_err-joined.ensures.uses in
    search rules

pub returns-clause-value : goal.returns-clause-value
returns-clause-value g c =
    let some : 1 ≤ c.in_ok-room.room = omega (arith, c.if-room-eq0.false) in
    end_value (g.S.Strings.state c.args.store.now) (g.S.Strings.state c.missing.new.store) (g.S.Strings.number c.args.s)
    (g.S.Strings.number c.args.filler) c.args.max c.in_ok-room.room c.requires.known c.requires.filler_known c.in_ok-room.ensures.uses
    c.in_ok-room.ensures.value some (g.S.Strings.state c.filled.new.store) (g.S.Strings.number c.in_ok-fill.fill) c.in_ok-fill.ensures.value
    c.in_ok-fill.ensures.uses (g.S.Strings.state c.joined.new.store) (g.S.Strings.number c.in_ok-joined.field-0) c.in_ok-joined.ensures.value

pub returns-clause-uses : goal.returns-clause-uses
returns-clause-uses g c =
    let some : 1 ≤ c.in_ok-room.room = omega (arith, c.if-room-eq0.false) in
    pad_use (g.S.Strings.state c.args.store.now) (g.S.Strings.state c.missing.new.store) (g.S.Strings.number c.args.s)
    (g.S.Strings.number c.args.filler) c.args.max c.in_ok-room.room c.requires.known c.requires.filler_known c.in_ok-room.ensures.uses
    c.in_ok-room.ensures.value some (g.S.Strings.state c.filled.new.store) (g.S.Strings.number c.in_ok-fill.fill) c.in_ok-fill.ensures.value
    c.in_ok-fill.ensures.uses (g.S.Strings.state c.joined.new.store) None c.in_ok-joined.ensures.uses

pub returns-clause-filler_settled : goal.returns-clause-filler_settled
returns-clause-filler_settled g c =
    let some : 1 ≤ c.in_ok-room.room = omega (arith, c.if-room-eq0.false) in
    let number = g.S.Strings.number in
    λ cuts. c.in_ok-joined.ensures.uses.step.grows.settled (number c.args.filler)
    (c.in_ok-fill.ensures.settled (filler_cut (g.S.Strings.state c.args.store.now) (g.S.Strings.state c.missing.new.store) (number c.args.s)
    (number c.args.filler) c.args.max c.in_ok-room.room c.requires.known c.requires.filler_known c.in_ok-room.ensures.uses
    c.in_ok-room.ensures.value some cuts))

-- few units are put together at once
pub returns-clause-settled : goal.returns-clause-settled
returns-clause-settled g c = λ reads.
    let few = few_units c.args.max (length (text (g.S.Strings.state c.args.store.now) (g.S.Strings.number c.args.s))) c.in_ok-room.room
    (text (g.S.Strings.state c.args.store.now) (g.S.Strings.number c.args.filler)) c.in_ok-room.ensures.value reads in
    absurd (let both : true ≡ false = sym (c.is_at_once.ensures.1 few) ∙ c.if-is_at_once.false in cc)
