use Rattle.std.proofs.Common.{◌<◌, ℕ, subst, sym, refl}
use Rattle.heap_rule.specs.Layout.{length_at}
use Rattle.heap_rule.specs.declared.size.HeapSize.{HeapSize}
use Rattle.atomic_table.specs.Table.{Allows, step}
use mathlib.Core.Option.{none}
use Rattle.heap_rule.proofs.Steps.{possible_within}
use Rattle.heap_table.specs.Rule.{KeepsHeap}
use Rattle.heap_table.specs.Plays.{LoadedLength}
use Rattle.heap_table.proofs.Keeps.{loads_length, length_small, belongs_then}
use Rattle.heap_table.proofs.agent.Agent.load_length.Goals as goal

pub load-requires : goal.load-requires
load-requires c = let r = c.requires.belongs in let h = c.args.heap.now in let seat = c.args.self.now.seat in
    let lt : c.args.id < h.size.ids = subst (λ (z : HeapSize). c.args.id < z.ids) r.1 ((possible_within seat.me.0 r.5).known c.args.id c.requires.known) in rw c.length_place.ensures (
      r.0,
      subst (λ (n : ℕ). length_at h.size c.args.id < n) (sym h.counted) (length_small h.size c.args.id lt),
      subst (λ (z : HeapSize). Allows (KeepsHeap h.table.shared.key) h.table.shared.table_id.slots seat.id seat.me (length_at z c.args.id)
          (λ n. n) (LoadedLength (step h.table.shared.table_id.slots (length_at z c.args.id) 0 0 none) seat.me)) r.1
          (loads_length h.table.shared.key h.table.shared.table_id.slots seat.id seat.me r.2 c.args.id c.requires.known),
    )

pub returns-clause-belongs : goal.returns-clause-belongs
returns-clause-belongs c = let e = c.load.ensures in belongs_then c.args.heap.now c.args.self.now (record { seat = c.load.new.seat; share = c.args.self.now.share }) c.requires.belongs refl e.0 e.2.0

pub length_place-requires : goal.length_place-requires
length_place-requires c = let r = c.requires.belongs in let h = c.args.heap.now in
    (h.lawful, subst (λ (z : HeapSize). c.args.id < z.ids) r.1 ((possible_within c.args.self.now.seat.me.0 r.5).known c.args.id c.requires.known))
