use Rattle.std.proofs.Common.{ℕ, refl}
use Rattle.heap_rule.specs.declared.view.View.{View}
use Rattle.heap_rule.specs.Layout.{form}
use Rattle.heap_rule.specs.HeaderMoves.{MayThin, thinned}
use Rattle.heap_rule.specs.Learning.{MayLearn}
use Rattle.heap_core.proofs.StateLemmas.{none_tells}
use Rattle.heap_core.proofs.HeaderMoves.{move_stands, move_stays, move_not_may, room_by, move_tells, thin_turns, thin_live}
use Rattle.heap_core.specs.Core.{core_of}
use Rattle.heap_core.specs.Events.{LiveIn}
use Rattle.heap_core.proofs.machine.Machine.may_thin.Goals as goal

pub returns-in_default : goal.returns-in_default
returns-in_default c = none_tells c.args.self.now.views.items c.args.view
    (λ (v : View). MayThin v c.args.id c.args.old c.args.target × MayLearn
    (thinned v c.args.id c.args.old c.args.target (form c.args.self.now.size c.args.self.now.words.items c.args.id)) c.args.names.now)
    (c.in_default.ensures.none refl)

pub returns-then-not-may_thin : goal.returns-then-not-may_thin
returns-then-not-may_thin c = move_not_may (core_of c.args.self.now) c.requires c.args.view c.args.id
    (λ (v : View). MayThin v c.args.id c.args.old c.args.target) (λ (v : View) (x : ℕ). thinned v c.args.id c.args.old c.args.target x)
    c.args.names.now c.in-Some.v.now c.in-Some.ensures.some c.if-not-may_thin.ensures.1

pub header-stands-requires-clause-stand : goal.header-stands-requires-clause-stand
header-stands-requires-clause-stand c = let e = c.in-Some.ensures.some in
    let t : LiveIn c.args.self.now.views.items c.args.view (λ (v : View). MayThin v c.args.id c.args.old c.args.target) = (
      c.in-Some.v.now,
      e.0,
      e.1,
      c.if-not-may_thin.ensures.0 refl,
    ) in (move_stands (core_of c.args.self.now) c.requires c.args.view c.args.id c.args.old
    (thin_live c.args.self.now.views.items c.args.view c.args.id c.args.old c.args.target t)).0

pub header-stands-requires-clause-born : goal.header-stands-requires-clause-born
header-stands-requires-clause-born c = let e = c.in-Some.ensures.some in
    let t : LiveIn c.args.self.now.views.items c.args.view (λ (v : View). MayThin v c.args.id c.args.old c.args.target) = (
      c.in-Some.v.now,
      e.0,
      e.1,
      c.if-not-may_thin.ensures.0 refl,
    ) in (move_stands (core_of c.args.self.now) c.requires c.args.view c.args.id c.args.old
    (thin_live c.args.self.now.views.items c.args.view c.args.id c.args.old c.args.target t)).1

pub thinning-requires-clause-stays : goal.thinning-requires-clause-stays
thinning-requires-clause-stays c = let e = c.in-Some.ensures.some in
    let t : LiveIn c.args.self.now.views.items c.args.view (λ (v : View). MayThin v c.args.id c.args.old c.args.target) = (
      c.in-Some.v.now,
      e.0,
      e.1,
      c.if-not-may_thin.ensures.0 refl,
    ) in move_stays (core_of c.args.self.now) c.requires c.args.view c.args.id c.args.old
    c.header-stands.result.0 (thin_live c.args.self.now.views.items c.args.view c.args.id c.args.old c.args.target t) c.header-stands.ensures.form

pub justifies_all-requires : goal.justifies_all-requires
justifies_all-requires c = let e = c.in-Some.ensures.some in
    let t : LiveIn c.args.self.now.views.items c.args.view (λ (v : View). MayThin v c.args.id c.args.old c.args.target) = (
      c.in-Some.v.now,
      e.0,
      e.1,
      c.if-not-may_thin.ensures.0 refl,
    ) in room_by (core_of c.args.self.now) c.requires c.args.view c.args.id
    (λ (v : View). MayThin v c.args.id c.args.old c.args.target) (λ (v : View) (x : ℕ). thinned v c.args.id c.args.old c.args.target x)
    (thin_turns (core_of c.args.self.now) c.requires c.args.view c.args.id c.args.old c.args.target) c.thinning.result
    c.header-stands.result.0 t c.header-stands.ensures.form c.thinning.ensures.view

pub returns : goal.returns
returns c = let e = c.in-Some.ensures.some in
    let t : LiveIn c.args.self.now.views.items c.args.view (λ (v : View). MayThin v c.args.id c.args.old c.args.target) = (
      c.in-Some.v.now,
      e.0,
      e.1,
      c.if-not-may_thin.ensures.0 refl,
    ) in move_tells (core_of c.args.self.now) c.requires c.args.view c.args.id
    (λ (v : View). MayThin v c.args.id c.args.old c.args.target) (λ (v : View) (x : ℕ). thinned v c.args.id c.args.old c.args.target x)
    c.args.names.now c.thinning.result c.header-stands.result.0 c.justifies_all.result t c.header-stands.ensures.form c.thinning.ensures.view
    c.justifies_all.ensures
