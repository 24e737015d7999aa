use Rattle.std.proofs.Common.{◌<◌, ℕ, None, subst, sym}
use Rattle.heap_rule.specs.Layout.{slot_at}
use Rattle.heap_rule.specs.declared.size.HeapSize.{HeapSize}
use Rattle.heap_rule.specs.Slots.{entry_in}
use Rattle.heap_table.proofs.Keeps.{sees_slot, slot_small, may_enter_in}
use Rattle.heap_table.proofs.agent.Agent.look_at_slot.Goals as goal

pub load-requires : goal.load-requires
load-requires c = let r = c.requires.belongs in let h = c.args.heap.now in let seat = c.args.self.now.seat in rw c.slot_place-place.ensures (
  r.0,
  subst (λ (n : ℕ). slot_at h.size c.args.slot < n) (sym h.counted) (slot_small h.size c.args.slot c.requires.inside),
  sees_slot h.table.shared.key h.table.shared.table_id.slots seat.id seat.me r.2 entry_in c.args.slot
      (subst (λ (z : HeapSize). c.args.slot < z.slots) (sym r.1) c.requires.inside) (may_enter_in seat.me.0 c.args.slot),
)

pub load-requires-2 : goal.load-requires-2
load-requires-2 c = let r = c.requires.belongs in let h = c.args.heap.now in let seat = c.args.self.now.seat in rw c.slot_place-place.ensures (
  r.0,
  subst (λ (n : ℕ). slot_at h.size c.args.slot < n) (sym h.counted) (slot_small h.size c.args.slot c.requires.inside),
  sees_slot h.table.shared.key h.table.shared.table_id.slots seat.id seat.me r.2 (λ v k. None) c.args.slot (subst (λ (z : HeapSize). c.args.slot < z.slots) (sym r.1) c.requires.inside) tt,
)
