use Rattle.std.proofs.Common.{◌<◌, ◌≡◌, ◌+◌, ℕ, subst, sym, refl, arith}
use Rattle.heap_rule.specs.Layout.{content_at}
use Rattle.heap_rule.specs.declared.size.HeapSize.{HeapSize}
use Rattle.atomic_table.specs.Table.{Allows, step}
use mathlib.Core.Option.{none}
use Rattle.heap_table.specs.Rule.{KeepsHeap}
use Rattle.heap_table.specs.Plays.{LoadedWord}
use Rattle.heap_table.proofs.Keeps.{loads_word, word_within, content_small, belongs_then}
use Rattle.heap_table.proofs.agent.Agent.load_word_from.Goals as goal

pub load-requires : goal.load-requires
load-requires c = let r = c.requires.belongs in let h = c.args.heap.now in let seat = c.args.self.now.seat in
    let lt : c.args.at < h.size.words = subst (λ (z : HeapSize). c.args.at < z.words) r.1 (word_within seat.me.0 r.5 c.args.at c.requires.may) in
    let place : c.args.first + c.args.at ≡ content_at h.size c.args.at = omega (arith, c.requires.first) in rw place (
      r.0,
      subst (λ (n : ℕ). content_at h.size c.args.at < n) (sym h.counted) (content_small h.size c.args.at lt),
      subst (λ (z : HeapSize). Allows (KeepsHeap h.table.shared.key) h.table.shared.table_id.slots seat.id seat.me (content_at z c.args.at)
          (λ n. n) (LoadedWord (step h.table.shared.table_id.slots (content_at z c.args.at) 0 0 none) seat.me)) r.1
          (loads_word h.table.shared.key h.table.shared.table_id.slots seat.id seat.me r.2 c.args.at c.requires.may),
    )

pub returns-clause-belongs : goal.returns-clause-belongs
returns-clause-belongs c = let e = c.load.ensures in belongs_then c.args.heap.now c.args.self.now (record { seat = c.load.new.seat; share = c.args.self.now.share }) c.requires.belongs refl e.0 e.2.0
