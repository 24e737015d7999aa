use Rattle.std.proofs.Common.{◌∙◌, ◌<◌, ◌^◌, ℕ, get_or, ap, sym, subst}
use Rattle.heap_rule.specs.declared.view.View.{View}
use Rattle.heap_rule.specs.Layout.{slot_at}
use Rattle.heap_core_views.specs.Loading.{HasRoom}
use Rattle.heap_core.specs.Core.{Core, core_of}
use Rattle.heap_rule.specs.Learning.{learned}
use Rattle.heap_rule.specs.Slots.{loaded_slot}
use Rattle.heap_core_views.specs.Probing.{MayLoad}
use Rattle.heap_core.specs.Events.{LiveIn}
use Rattle.heap_core.proofs.StateLemmas.{view_inside}
use Rattle.heap_core.proofs.SlotEvents.{slot_inside, slot_room, slot_small, load_became}
use Rattle.heap_core.proofs.machine.Machine.load_slot.Goals as goal

pub slot_place-requires : goal.slot_place-requires
slot_place-requires c = let can = c.requires.can in
    let t : LiveIn c.args.self.now.views.items c.args.view (λ (v : View). (c.args.slot < v.sizes.slots) ×
    (MayLoad v c.args.slot c.args.entry.now c.args.names.now (get_or c.args.self.now.words.items
    (slot_at c.args.self.now.size c.args.slot) 0))) = (can.0, can.1, can.2, (can.3.0, can.3)) in
    let i = slot_inside (core_of c.args.self.now) c.requires.core c.args.view
    (λ (v : View). MayLoad v c.args.slot c.args.entry.now c.args.names.now
    (get_or c.args.self.now.words.items (slot_at c.args.self.now.size c.args.slot) 0)) c.args.slot t in (i.0, i.1)

pub view-requires : goal.view-requires
view-requires c = let can = c.requires.can in
    let t : LiveIn c.args.self.now.views.items c.args.view (λ (v : View). (c.args.slot < v.sizes.slots) ×
    (MayLoad v c.args.slot c.args.entry.now c.args.names.now (get_or c.args.self.now.words.items
    (slot_at c.args.self.now.size c.args.slot) 0))) = (can.0, can.1, can.2, (can.3.0, can.3)) in
    view_inside c.args.self.now.views.items c.args.view (λ (v : View). MayLoad v c.args.slot c.args.entry.now c.args.names.now
    (get_or c.args.self.now.words.items (slot_at c.args.self.now.size c.args.slot) 0)) can

pub slot_loaded-requires-clause-room : goal.slot_loaded-requires-clause-room
slot_loaded-requires-clause-room c = let can = c.requires.can in
    let t : LiveIn c.args.self.now.views.items c.args.view (λ (v : View). (c.args.slot < v.sizes.slots) ×
    (MayLoad v c.args.slot c.args.entry.now c.args.names.now (get_or c.args.self.now.words.items
    (slot_at c.args.self.now.size c.args.slot) 0))) = (can.0, can.1, can.2, (can.3.0, can.3)) in subst HasRoom (sym c.view.ensures)
    (slot_room (core_of c.args.self.now) c.requires.core c.args.view (λ (v : View). MayLoad v c.args.slot c.args.entry.now c.args.names.now
    (get_or c.args.self.now.words.items (slot_at c.args.self.now.size c.args.slot) 0)) c.args.slot t)

pub slot_loaded-requires-clause-small : goal.slot_loaded-requires-clause-small
slot_loaded-requires-clause-small c = let can = c.requires.can in
    let t : LiveIn c.args.self.now.views.items c.args.view (λ (v : View). (c.args.slot < v.sizes.slots) ×
    (MayLoad v c.args.slot c.args.entry.now c.args.names.now (get_or c.args.self.now.words.items
    (slot_at c.args.self.now.size c.args.slot) 0))) = (can.0, can.1, can.2, (can.3.0, can.3)) in subst (λ (n : ℕ). n < 2 ^ 32)
    (sym c.word-found.ensures) (slot_small (core_of c.args.self.now) c.requires.core c.args.view
    (λ (v : View). MayLoad v c.args.slot c.args.entry.now c.args.names.now
    (get_or c.args.self.now.words.items (slot_at c.args.self.now.size c.args.slot) 0)) c.args.slot t c.slot_place.result c.slot_place.ensures)

pub look-requires : goal.look-requires
look-requires c = let can = c.requires.can in
    let t : LiveIn c.args.self.now.views.items c.args.view (λ (v : View). (c.args.slot < v.sizes.slots) ×
    (MayLoad v c.args.slot c.args.entry.now c.args.names.now (get_or c.args.self.now.words.items
    (slot_at c.args.self.now.size c.args.slot) 0))) = (can.0, can.1, can.2, (can.3.0, can.3)) in
    view_inside c.args.self.now.views.items c.args.view (λ (v : View). MayLoad v c.args.slot c.args.entry.now c.args.names.now
    (get_or c.args.self.now.words.items (slot_at c.args.self.now.size c.args.slot) 0)) can

pub returns : goal.returns
returns c = let can = c.requires.can in
    let t : LiveIn c.args.self.now.views.items c.args.view (λ (v : View). (c.args.slot < v.sizes.slots) ×
    (MayLoad v c.args.slot c.args.entry.now c.args.names.now (get_or c.args.self.now.words.items
    (slot_at c.args.self.now.size c.args.slot) 0))) = (can.0, can.1, can.2, (can.3.0, can.3)) in load_became (core_of c.args.self.now)
    c.requires.core c.args.view c.args.slot c.slot_place.result c.word-found.result c.args.entry.now c.args.names.now c.in_ok-seen.seen
    (core_of c.look.new.self) c.slot_place.ensures c.word-found.ensures
    (c.in_ok-seen.ensures ∙ ap (λ (v : View). learned (loaded_slot v c.args.slot c.args.entry.now c.word-found.result) c.args.names.now) c.view.ensures) c.look.ensures
