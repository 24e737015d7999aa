use Rattle.std.proofs.Common.{◌<◌, ℕ, subst, sym, refl}
use Rattle.heap_rule.specs.Layout.{length_at}
use Rattle.heap_rule.specs.declared.size.HeapSize.{HeapSize}
use Rattle.atomic_table.specs.Table.{Allows, step}
use mathlib.Core.Option.{none}
use Rattle.heap_rule.proofs.Steps.{possible_within}
use Rattle.heap_table.specs.Rule.{KeepsHeap}
use Rattle.heap_table.specs.Plays.{StoredLength}
use Rattle.heap_table.proofs.Keeps.{stores_length, length_small, belongs_then}
use Rattle.heap_table.proofs.agent.Agent.store_length.Goals as goal

pub store-requires : goal.store-requires
store-requires c = let r = c.requires.belongs in let h = c.args.heap.now in let seat = c.args.self.now.seat in
    let lt : c.args.id < h.size.ids = subst (λ (z : HeapSize). c.args.id < z.ids) r.1 ((possible_within seat.me.0 r.5).ids c.args.id c.requires.may.0) in rw (c.length_place.ensures, c.from.ensures) (
      r.0,
      subst (λ (n : ℕ). length_at h.size c.args.id < n) (sym h.counted) (length_small h.size c.args.id lt),
      subst (λ (z : HeapSize). Allows (KeepsHeap h.table.shared.key) h.table.shared.table_id.slots seat.id seat.me (length_at z c.args.id)
          (λ _. c.args.length) (λ _. StoredLength (step h.table.shared.table_id.slots (length_at z c.args.id) c.args.length 0 none) seat.me c.args.length)) r.1
          (stores_length h.table.shared.key h.table.shared.table_id.slots seat.id seat.me r.2 c.args.id c.args.length c.requires.may),
    )

pub returns-clause-belongs : goal.returns-clause-belongs
returns-clause-belongs c = let e = c.store.ensures in belongs_then c.args.heap.now c.args.self.now (record { seat = c.store.new.seat; share = c.args.self.now.share }) c.requires.belongs refl e.0 e.2.0

pub length_place-requires : goal.length_place-requires
length_place-requires c = let r = c.requires.belongs in let h = c.args.heap.now in
    (h.lawful, subst (λ (z : HeapSize). c.args.id < z.ids) r.1 ((possible_within c.args.self.now.seat.me.0 r.5).ids c.args.id c.requires.may.0))
