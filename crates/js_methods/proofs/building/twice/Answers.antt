use Rattle.std.proofs.Common.{◌≡◌, arith}
use Rattle.std.specs.Prelude.{◌%◌}
use Rattle.js_methods.proofs.Copies.{even_room, even_value, odd_room, odd_value, ok_map}
use Rattle.js_methods.proofs.building.twice.Goals as goal

pub joined-requires-clause-short : goal.joined-requires-clause-short
joined-requires-clause-short g c = even_room (g.S.Strings.state c.args.store.now) (g.S.Strings.number c.args.s) (g.S.Strings.number c.args.half) c.args.count c.requires.half _ c.requires.short

pub returns-then-count-eq0-clause-value : goal.returns-then-count-eq0-clause-value
returns-then-count-eq0-clause-value g c =
    let even : c.args.count % 2 ≡ 0 = omega (arith, c.if-count-eq0.true) in
    even_value (g.S.Strings.state c.args.store.now) (g.S.Strings.number c.args.s) (g.S.Strings.number c.args.half) c.args.count
    c.requires.half (g.S.Strings.state c.joined.new.store) (g.S.Strings.number c.in_ok-even.even) even c.in_ok-even.ensures.value

pub joined-requires-2-clause-short : goal.joined-requires-2-clause-short
joined-requires-2-clause-short g c =
    let odd : c.args.count % 2 ≡ 1 = omega (arith, c.if-count-eq0.false) in
    odd_room (g.S.Strings.state c.args.store.now) (g.S.Strings.number c.args.s) (g.S.Strings.number c.args.half) c.args.count
    c.requires.half (g.S.Strings.state c.joined.new.store) (g.S.Strings.number c.in_ok-even.even) c.requires.known odd
    c.in_ok-even.ensures.value c.in_ok-even.ensures.uses c.requires.short

pub returns-clause-value : goal.returns-clause-value
returns-clause-value g c =
    let odd : c.args.count % 2 ≡ 1 = omega (arith, c.if-count-eq0.false) in
    let value = odd_value (g.S.Strings.state c.args.store.now) (g.S.Strings.number c.args.s) (g.S.Strings.number c.args.half) c.args.count
    c.requires.half (g.S.Strings.state c.joined.new.store) (g.S.Strings.number c.in_ok-even.even) c.requires.known odd
    c.in_ok-even.ensures.value c.in_ok-even.ensures.uses (g.S.Strings.state c.joined-2.new.store) in
    ok_map c.joined-2.result (λ r. value (g.S.Strings.number r)) c.joined-2.ensures.value
