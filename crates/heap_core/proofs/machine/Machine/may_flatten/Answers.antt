use Rattle.std.proofs.Common.{ℕ, refl}
use Rattle.heap_rule.specs.declared.view.View.{View}
use Rattle.heap_rule.specs.Layout.{form}
use Rattle.heap_rule.specs.HeaderMoves.{MayFlatten, flattened}
use Rattle.heap_rule.specs.Learning.{MayLearn}
use Rattle.heap_core.proofs.StateLemmas.{none_tells}
use Rattle.heap_core.proofs.SlotEvents.{has_shorts}
use Rattle.heap_core.proofs.HeaderMoves.{move_stands, move_stays, move_not_may, room_by, move_tells, flatten_turns, flatten_live, flatten_range}
use Rattle.heap_core.specs.Core.{core_of}
use Rattle.heap_core.specs.Events.{LiveIn}
use Rattle.heap_core.proofs.machine.Machine.may_flatten.Goals as goal

pub returns-in_default : goal.returns-in_default
returns-in_default c = none_tells c.args.self.now.views.items c.args.view
    (λ (v : View). MayFlatten v c.args.id c.args.old c.args.new × MayLearn
    (flattened v c.args.id c.args.old c.args.new (form c.args.self.now.size c.args.self.now.words.items c.args.id)) c.args.names.now)
    (c.in_default.ensures.none refl)

pub returns-then-not-may_flatten : goal.returns-then-not-may_flatten
returns-then-not-may_flatten c = move_not_may (core_of c.args.self.now) c.requires c.args.view c.args.id
    (λ (v : View). MayFlatten v c.args.id c.args.old c.args.new) (λ (v : View) (x : ℕ). flattened v c.args.id c.args.old c.args.new x)
    c.args.names.now c.in-Some.v.now c.in-Some.ensures.some c.if-not-may_flatten.ensures.1

pub may_flatten-requires : goal.may_flatten-requires
may_flatten-requires c = has_shorts (core_of c.args.self.now) c.requires c.args.view c.in-Some.v.now c.in-Some.ensures.some

pub header-stands-requires-clause-stand : goal.header-stands-requires-clause-stand
header-stands-requires-clause-stand c = let e = c.in-Some.ensures.some in
    let t : LiveIn c.args.self.now.views.items c.args.view (λ (v : View). MayFlatten v c.args.id c.args.old c.args.new) = (
      c.in-Some.v.now,
      e.0,
      e.1,
      c.if-not-may_flatten.ensures.0 refl,
    ) in (move_stands (core_of c.args.self.now) c.requires c.args.view c.args.id c.args.old
    (flatten_live c.args.self.now.views.items c.args.view c.args.id c.args.old c.args.new t)).0

pub header-stands-requires-clause-born : goal.header-stands-requires-clause-born
header-stands-requires-clause-born c = let e = c.in-Some.ensures.some in
    let t : LiveIn c.args.self.now.views.items c.args.view (λ (v : View). MayFlatten v c.args.id c.args.old c.args.new) = (
      c.in-Some.v.now,
      e.0,
      e.1,
      c.if-not-may_flatten.ensures.0 refl,
    ) in (move_stands (core_of c.args.self.now) c.requires c.args.view c.args.id c.args.old
    (flatten_live c.args.self.now.views.items c.args.view c.args.id c.args.old c.args.new t)).1

pub flattening-requires-clause-shorts : goal.flattening-requires-clause-shorts
flattening-requires-clause-shorts c = let e = c.in-Some.ensures.some in
    let t : LiveIn c.args.self.now.views.items c.args.view (λ (v : View). MayFlatten v c.args.id c.args.old c.args.new) = (
      c.in-Some.v.now,
      e.0,
      e.1,
      c.if-not-may_flatten.ensures.0 refl,
    ) in has_shorts (core_of c.args.self.now) c.requires c.args.view c.in-Some.v.now e

pub flattening-requires-clause-new : goal.flattening-requires-clause-new
flattening-requires-clause-new c = let e = c.in-Some.ensures.some in
    let t : LiveIn c.args.self.now.views.items c.args.view (λ (v : View). MayFlatten v c.args.id c.args.old c.args.new) = (
      c.in-Some.v.now,
      e.0,
      e.1,
      c.if-not-may_flatten.ensures.0 refl,
    ) in flatten_range c.in-Some.v.now c.args.id c.args.old c.args.new t.3

pub flattening-requires-clause-stays : goal.flattening-requires-clause-stays
flattening-requires-clause-stays c = let e = c.in-Some.ensures.some in
    let t : LiveIn c.args.self.now.views.items c.args.view (λ (v : View). MayFlatten v c.args.id c.args.old c.args.new) = (
      c.in-Some.v.now,
      e.0,
      e.1,
      c.if-not-may_flatten.ensures.0 refl,
    ) in move_stays (core_of c.args.self.now) c.requires c.args.view c.args.id c.args.old
    c.header-stands.result.0 (flatten_live c.args.self.now.views.items c.args.view c.args.id c.args.old c.args.new t) c.header-stands.ensures.form

pub justifies_all-requires : goal.justifies_all-requires
justifies_all-requires c = let e = c.in-Some.ensures.some in
    let t : LiveIn c.args.self.now.views.items c.args.view (λ (v : View). MayFlatten v c.args.id c.args.old c.args.new) = (
      c.in-Some.v.now,
      e.0,
      e.1,
      c.if-not-may_flatten.ensures.0 refl,
    ) in room_by (core_of c.args.self.now) c.requires c.args.view c.args.id
    (λ (v : View). MayFlatten v c.args.id c.args.old c.args.new) (λ (v : View) (x : ℕ). flattened v c.args.id c.args.old c.args.new x)
    (flatten_turns (core_of c.args.self.now) c.requires c.args.view c.args.id c.args.old c.args.new) c.flattening.result
    c.header-stands.result.0 t c.header-stands.ensures.form c.flattening.ensures.view

pub returns : goal.returns
returns c = let e = c.in-Some.ensures.some in
    let t : LiveIn c.args.self.now.views.items c.args.view (λ (v : View). MayFlatten v c.args.id c.args.old c.args.new) = (
      c.in-Some.v.now,
      e.0,
      e.1,
      c.if-not-may_flatten.ensures.0 refl,
    ) in move_tells (core_of c.args.self.now) c.requires c.args.view c.args.id
    (λ (v : View). MayFlatten v c.args.id c.args.old c.args.new) (λ (v : View) (x : ℕ). flattened v c.args.id c.args.old c.args.new x)
    c.args.names.now c.flattening.result c.header-stands.result.0 c.justifies_all.result t c.header-stands.ensures.form
    c.flattening.ensures.view c.justifies_all.ensures
