use Rattle.std.proofs.Common.{sym, ap, ◌∙◌, refl, Some}
use Rattle.std.specs.Option.{option_copied}
use Rattle.heap_core_views.proofs.SlotSteps.{may_take}
use Rattle.heap_core_views.proofs.slots.may_take_slot.Goals as goal

pub returns-in-Some : goal.returns-in-Some
returns-in-Some c = may_take c.args.view.now c.args.slot c.args.id c.as_slice.result.now c.is_behind.result c.if-view-slot.false (c.if-not-is_header.ensures.0 refl)
    (sym c.get.ensures ∙ (ap option_copied c.in-Some.is ∙ ap Some (sym c.as_slice.ensures))) c.is_behind.ensures
