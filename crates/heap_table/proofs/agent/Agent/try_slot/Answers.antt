use Rattle.std.proofs.Common.{◌<◌, ◌+◌, ℕ, subst, sym, ap}
use Rattle.heap_rule.specs.Layout.{slot_at}
use Rattle.heap_rule.specs.declared.size.HeapSize.{HeapSize}
use Rattle.heap_table.proofs.Keeps.{takes_slot, slot_small}
use Rattle.heap_table.proofs.agent.Agent.try_slot.Goals as goal

pub compare_exchange-requires : goal.compare_exchange-requires
compare_exchange-requires c = let r = c.requires.belongs in let h = c.args.heap.now in let seat = c.args.self.now.seat in
    let inside : c.args.slot < h.size.slots = subst (λ (z : HeapSize). c.args.slot < z.slots) r.1 c.requires.may.0 in rw (c.slot_place.ensures, c.from-new.ensures) (
      r.0,
      subst (λ (n : ℕ). slot_at h.size c.args.slot < n) (sym h.counted) (slot_small h.size c.args.slot inside),
      takes_slot h.table.shared.key h.table.shared.table_id.slots seat.id seat.me r.2 c.args.slot c.args.id c.requires.may,
    )

pub returns-clause-found : goal.returns-clause-found
returns-clause-found c = (c.compare_exchange.ensures.2.3 c.args.slot c.args.id c.slot_place.ensures (ap (λ (n : ℕ). n + 1) c.from-new.ensures)).1
