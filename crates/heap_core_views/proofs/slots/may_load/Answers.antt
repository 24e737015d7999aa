use Rattle.std.proofs.Common.{refl}
use Rattle.heap_core_views.proofs.SlotSteps.{may_load_by}
use Rattle.heap_core_views.proofs.slots.may_load.Goals as goal

pub returns : goal.returns
returns c x = may_load_by c.args.view.now c.args.slot c.args.entry.now c.args.names.now c.justifies_all.result x c.if-view-slot.false (c.if-not-may_enter.ensures.0 refl) c.justifies_all.ensures
