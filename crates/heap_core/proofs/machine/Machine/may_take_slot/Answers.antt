use Rattle.std.proofs.Common.{get_or, refl}
use Rattle.heap_rule.specs.declared.view.View.{View}
use Rattle.heap_rule.specs.Layout.{slot_at}
use Rattle.heap_core_views.specs.Probing.{MayTake}
use Rattle.heap_core.proofs.SlotEvents.{has_room, has_shorts, has_forms, few_slots}
use Rattle.heap_core.specs.Core.{core_of}
use Rattle.heap_core.proofs.StateLemmas.{live_tells, none_tells}
use Rattle.heap_core.proofs.machine.Machine.may_take_slot.Goals as goal

pub may_take-requires-clause-shorts : goal.may_take-requires-clause-shorts
may_take-requires-clause-shorts c = has_shorts (core_of c.args.self.now) c.requires c.args.view c.in-Some.v.now c.in-Some.ensures.some

pub may_take-requires-clause-forms : goal.may_take-requires-clause-forms
may_take-requires-clause-forms c = has_forms (core_of c.args.self.now) c.requires c.args.view c.in-Some.v.now c.in-Some.ensures.some

pub may_take-requires-clause-slots : goal.may_take-requires-clause-slots
may_take-requires-clause-slots c = few_slots (core_of c.args.self.now) c.requires c.args.view c.in-Some.v.now c.in-Some.ensures.some

pub may_take-requires-clause-room : goal.may_take-requires-clause-room
may_take-requires-clause-room c = has_room (core_of c.args.self.now) c.requires c.args.view c.in-Some.v.now c.in-Some.ensures.some

pub returns-in-Some : goal.returns-in-Some
returns-in-Some c = live_tells c.args.self.now.views.items c.args.view
    (λ (v : View). MayTake v c.args.slot c.args.id c.args.names.now (get_or c.args.self.now.words.items
    (slot_at c.args.self.now.size c.args.slot) 0)) c.in-Some.v.now c.may_take.result c.in-Some.ensures.some
    (c.may_take.ensures (get_or c.args.self.now.words.items (slot_at c.args.self.now.size c.args.slot) 0))

pub returns-in-None : goal.returns-in-None
returns-in-None c = none_tells c.args.self.now.views.items c.args.view
    (λ (v : View). MayTake v c.args.slot c.args.id c.args.names.now (get_or c.args.self.now.words.items
    (slot_at c.args.self.now.size c.args.slot) 0)) (c.in-None.ensures.none refl)
