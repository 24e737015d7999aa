use Rattle.std.proofs.Common.{◌≤◌, arith, rules}
use Rattle.js_store.specs.State.{text}
use Rattle.js_store.proofs.Laws.{known_still}
use Rattle.js_methods.proofs.Copies.{half_lengths, half_use, whole_use, half_value, whole_room, whole_value, ok_map}
use Rattle.js_methods.proofs.building.+doubled.Goals as goal

pub doubled-requires : goal.doubled-requires
doubled-requires g t c =
    let room = half_lengths c.args.count (text (g.S.Strings.state c.args.store.now) (g.S.Strings.number c.args.s)) in
    search rules

pub returns-in_err-half-clause-uses : goal.returns-in_err-half-clause-uses
returns-in_err-half-clause-uses g t c =
    let many : 2 ≤ c.args.count = omega (arith, c.requires.some, c.if-count-eq1.false) in
    let used = half_use c.args.count many c.in_err-half.ensures.uses in
    λ k l. let at = used k l in search rules

pub twice-requires-clause-known : goal.twice-requires-clause-known
twice-requires-clause-known g t c = known_still (c.in_ok-half.ensures.uses 31 (omega (arith, c.ranges.count.fits))).step.grows (g.S.Strings.number c.args.s) c.requires.known

pub twice-requires-clause-half : goal.twice-requires-clause-half
twice-requires-clause-half g t c =
    let grows = (c.in_ok-half.ensures.uses 31 (omega (arith, c.ranges.count.fits))).step.grows in
    half_value (g.S.Strings.state c.args.store.now) (g.S.Strings.state c.doubled.new.store) (g.S.Strings.number c.args.s) c.args.count
    c.requires.known grows (g.S.Strings.number c.in_ok-half.half) c.in_ok-half.ensures.value

pub twice-requires-clause-short : goal.twice-requires-clause-short
twice-requires-clause-short g t c =
    let grows = (c.in_ok-half.ensures.uses 31 (omega (arith, c.ranges.count.fits))).step.grows in
    whole_room (g.S.Strings.state c.args.store.now) (g.S.Strings.state c.doubled.new.store) (g.S.Strings.number c.args.s) c.args.count c.requires.known grows c.requires.short

pub returns-clause-value : goal.returns-clause-value
returns-clause-value g t c =
    let grows = (c.in_ok-half.ensures.uses 31 (omega (arith, c.ranges.count.fits))).step.grows in
    let value = whole_value (g.S.Strings.state c.args.store.now) (g.S.Strings.state c.doubled.new.store) (g.S.Strings.number c.args.s)
    c.args.count c.requires.known grows (g.S.Strings.state c.twice.new.store) in
    ok_map c.twice.result (λ r. value (g.S.Strings.number r)) c.twice.ensures.value

pub returns-clause-uses : goal.returns-clause-uses
returns-clause-uses g t c =
    let many : 2 ≤ c.args.count = omega (arith, c.requires.some, c.if-count-eq1.false) in
    whole_use c.args.count many c.in_ok-half.ensures.uses c.twice.ensures.uses
