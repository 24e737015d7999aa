use Rattle.std.proofs.Common.{get_or, refl}
use Rattle.heap_rule.specs.declared.view.View.{View}
use Rattle.heap_rule.specs.Layout.{slot_at}
use Rattle.heap_core_views.specs.Probing.{MayLoad}
use Rattle.heap_core.proofs.SlotEvents.{has_room}
use Rattle.heap_core.specs.Core.{core_of}
use Rattle.heap_core.proofs.StateLemmas.{live_tells, none_tells}
use Rattle.heap_core.proofs.machine.Machine.may_load_slot.Goals as goal

pub may_load-requires : goal.may_load-requires
may_load-requires c = has_room (core_of c.args.self.now) c.requires c.args.view c.in-Some.v.now c.in-Some.ensures.some

pub returns-in-Some : goal.returns-in-Some
returns-in-Some c = live_tells c.args.self.now.views.items c.args.view
    (λ (v : View). MayLoad v c.args.slot c.args.entry.now c.args.names.now
    (get_or c.args.self.now.words.items (slot_at c.args.self.now.size c.args.slot) 0)) c.in-Some.v.now c.may_load.result
    c.in-Some.ensures.some (c.may_load.ensures (get_or c.args.self.now.words.items (slot_at c.args.self.now.size c.args.slot) 0))

pub returns-in-None : goal.returns-in-None
returns-in-None c = none_tells c.args.self.now.views.items c.args.view
    (λ (v : View). MayLoad v c.args.slot c.args.entry.now c.args.names.now
    (get_or c.args.self.now.words.items (slot_at c.args.self.now.size c.args.slot) 0)) (c.in-None.ensures.none refl)
