use Rattle.std.proofs.Common.{refl}
use Rattle.heap_core_views.proofs.SlotSteps.{may_take_by}
use Rattle.heap_core_views.proofs.slots.may_take.Goals as goal

pub returns : goal.returns
returns c x = may_take_by c.args.view.now c.args.slot c.args.id c.args.names.now c.justifies_all.result x (c.if-not-may_take_slot.ensures.0 refl) c.justifies_all.ensures
