use Rattle.std.proofs.Common.{◌≡◌, ◌<◌, ◌∙◌, ℕ, Some, length, sym, subst}
use Rattle.js_header.specs.Form.{form_of, word_of}
use Rattle.heap_rule.specs.declared.view.View.{View}
use Rattle.heap_rule.specs.Layout.{IsLawfulSize, form_at, form}
use Rattle.heap_rule.specs.Agents.{spent}
use Rattle.heap_core_views.specs.Loading.{loaded_by}
use Rattle.heap_rule.proofs.ListLemmas.{at_index}
use Rattle.heap_core.specs.Core.{Core, core_of}
use Rattle.heap_core.specs.Events.{LiveIn, view_at}
use Rattle.heap_core.proofs.StateLemmas.{view_inside}
use Rattle.js_header.specs.declared.form.Form.TheVariants.{Thin}
use Rattle.heap_rule.specs.HeaderMoves.{MayThin, thinned}
use Rattle.heap_core.proofs.HeaderMoves.{move_stands, move_stays, move_inside, move_room, move_became, thin_turns, thin_live, thin_range}
use Rattle.heap_core.proofs.machine.Machine.thin.Goals as goal

pub header-stands-requires-clause-stand : goal.header-stands-requires-clause-stand
header-stands-requires-clause-stand c = let can = c.requires.can in
    let t : LiveIn c.args.self.now.views.items c.args.view (λ (v : View). MayThin v c.args.id c.args.old c.args.target) = (
      can.0,
      can.1,
      can.2,
      can.3.0,
    ) in (move_stands (core_of c.args.self.now) c.requires.core c.args.view c.args.id c.args.old
    (thin_live c.args.self.now.views.items c.args.view c.args.id c.args.old c.args.target t)).0

pub header-stands-requires-clause-born : goal.header-stands-requires-clause-born
header-stands-requires-clause-born c = let can = c.requires.can in
    let t : LiveIn c.args.self.now.views.items c.args.view (λ (v : View). MayThin v c.args.id c.args.old c.args.target) = (
      can.0,
      can.1,
      can.2,
      can.3.0,
    ) in (move_stands (core_of c.args.self.now) c.requires.core c.args.view c.args.id c.args.old
    (thin_live c.args.self.now.views.items c.args.view c.args.id c.args.old c.args.target t)).1

pub view-requires : goal.view-requires
view-requires c = let can = c.requires.can in
    let t : LiveIn c.args.self.now.views.items c.args.view (λ (v : View). MayThin v c.args.id c.args.old c.args.target) = (
      can.0,
      can.1,
      can.2,
      can.3.0,
    ) in view_inside c.args.self.now.views.items c.args.view (λ (v : View). MayThin v c.args.id c.args.old c.args.target) t

pub thinning-load-requires-clause-stays : goal.thinning-load-requires-clause-stays
thinning-load-requires-clause-stays c = let can = c.requires.can in
    let t : LiveIn c.args.self.now.views.items c.args.view (λ (v : View). MayThin v c.args.id c.args.old c.args.target) = (
      can.0,
      can.1,
      can.2,
      can.3.0,
    ) in move_stays (core_of c.args.self.now) c.requires.core c.args.view c.args.id c.args.old c.header-stands.result.0
    (thin_live c.args.self.now.views.items c.args.view c.args.id c.args.old c.args.target t) c.header-stands.ensures.form

pub learn-requires-clause-inside : goal.learn-requires-clause-inside
learn-requires-clause-inside c = let can = c.requires.can in
    let t : LiveIn c.args.self.now.views.items c.args.view (λ (v : View). MayThin v c.args.id c.args.old c.args.target) = (
      can.0,
      can.1,
      can.2,
      can.3.0,
    ) in view_inside c.args.self.now.views.items c.args.view (λ (v : View). MayThin v c.args.id c.args.old c.args.target) t

pub learn-requires-clause-room : goal.learn-requires-clause-room
learn-requires-clause-room c = let can = c.requires.can in
    let t : LiveIn c.args.self.now.views.items c.args.view (λ (v : View). MayThin v c.args.id c.args.old c.args.target) = (
      can.0,
      can.1,
      can.2,
      can.3.0,
    ) in move_room (core_of c.args.self.now) c.requires.core c.args.view c.args.id
    (λ (v : View). MayThin v c.args.id c.args.old c.args.target) (λ (v : View) (x : ℕ). thinned v c.args.id c.args.old c.args.target x)
    (thin_turns (core_of c.args.self.now) c.requires.core c.args.view c.args.id c.args.old c.args.target) c.thinning-load.result
    c.header-stands.result.0 (view_at (core_of c.args.self.now) c.args.view) t
    (at_index c.args.self.now.views.items c.args.view t.0 spent t.1) c.header-stands.ensures.form
    (subst (λ (v : View). loaded_by v c.thinning-load.result ≡ thinned v c.args.id c.args.old c.args.target
    (word_of c.header-stands.result.0)) c.view.ensures c.thinning-load.ensures.view)

pub exchange-requires-clause-inside : goal.exchange-requires-clause-inside
exchange-requires-clause-inside c = let can = c.requires.can in
    let t : LiveIn c.args.self.now.views.items c.args.view (λ (v : View). MayThin v c.args.id c.args.old c.args.target) = (
      can.0,
      can.1,
      can.2,
      can.3.0,
    ) in subst (λ (u : Core). IsLawfulSize u.size × (c.args.id < u.size.ids) × (form_at u.size c.args.id < length u.words))
    (sym c.in_ok-learn.ensures.ok) (move_inside (core_of c.args.self.now) c.requires.core c.args.view c.args.id c.args.old
    (thin_live c.args.self.now.views.items c.args.view c.args.id c.args.old c.args.target t))

pub exchange-requires-clause-stands : goal.exchange-requires-clause-stands
exchange-requires-clause-stands c = let can = c.requires.can in
    let t : LiveIn c.args.self.now.views.items c.args.view (λ (v : View). MayThin v c.args.id c.args.old c.args.target) = (
      can.0,
      can.1,
      can.2,
      can.3.0,
    ) in subst (λ (u : Core). form_of (form u.size u.words c.args.id) ≡ Some c.header-stands.result.0)
    (sym c.in_ok-learn.ensures.ok) c.header-stands.ensures.form

pub exchange-requires-clause-new : goal.exchange-requires-clause-new
exchange-requires-clause-new c = let can = c.requires.can in
    let t : LiveIn c.args.self.now.views.items c.args.view (λ (v : View). MayThin v c.args.id c.args.old c.args.target) = (
      can.0,
      can.1,
      can.2,
      can.3.0,
    ) in thin_range (core_of c.args.self.now) c.requires.core c.args.view c.args.id c.args.old c.args.target t

pub exchange-requires-clause-stays : goal.exchange-requires-clause-stays
exchange-requires-clause-stays c = let can = c.requires.can in
    let t : LiveIn c.args.self.now.views.items c.args.view (λ (v : View). MayThin v c.args.id c.args.old c.args.target) = (
      can.0,
      can.1,
      can.2,
      can.3.0,
    ) in move_stays (core_of c.args.self.now) c.requires.core c.args.view c.args.id c.args.old c.header-stands.result.0
    (thin_live c.args.self.now.views.items c.args.view c.args.id c.args.old c.args.target t) c.header-stands.ensures.form

pub returns : goal.returns
returns c = let can = c.requires.can in
    let t : LiveIn c.args.self.now.views.items c.args.view (λ (v : View). MayThin v c.args.id c.args.old c.args.target) = (
      can.0,
      can.1,
      can.2,
      can.3.0,
    ) in move_became (core_of c.args.self.now) c.requires.core c.args.view c.args.id
    (λ (v : View). MayThin v c.args.id c.args.old c.args.target) (λ (v : View) (x : ℕ). thinned v c.args.id c.args.old c.args.target x)
    c.args.old (Thin c.args.target) c.header-stands.result.0 c.args.names.now c.thinning-load.result (core_of c.exchange.new.self)
    (core_of c.learn.new.self) c.exchange.result c.header-stands.ensures.form
    (subst (λ (v : View). loaded_by v c.thinning-load.result ≡ thinned v c.args.id c.args.old c.args.target
    (word_of c.header-stands.result.0)) c.view.ensures c.thinning-load.ensures.view) c.in_ok-learn.ensures.ok c.exchange.ensures.after c.exchange.ensures.found
