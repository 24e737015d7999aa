use Rattle.std.proofs.Common.{◌<◌, ℕ, subst, sym, refl}
use Rattle.js_header.specs.Form.{word_of}
use Rattle.heap_rule.specs.Layout.{form_at}
use Rattle.heap_rule.specs.declared.size.HeapSize.{HeapSize}
use Rattle.atomic_table.specs.Table.{Allows, step}
use mathlib.Core.Option.{none}
use Rattle.heap_rule.proofs.MapLemmas.{key_of}
use Rattle.heap_rule.proofs.Steps.{possible_within}
use Rattle.heap_table.specs.Rule.{KeepsHeap}
use Rattle.heap_table.specs.Plays.{GaveBirth}
use Rattle.heap_table.proofs.Keeps.{bears, born_in_range, form_small, belongs_then}
use Rattle.heap_table.proofs.agent.Agent.birth.Goals as goal

pub store-requires : goal.store-requires
store-requires c = let r = c.requires.belongs in let h = c.args.heap.now in let seat = c.args.self.now.seat in let own = key_of seat.me.0.own_ids c.args.id c.requires.fits.0 c.requires.fits.1 in
    let lt : c.args.id < h.size.ids = subst (λ (z : HeapSize). c.args.id < z.ids) r.1 ((possible_within seat.me.0 r.5).ids c.args.id own) in rw (c.form_place.ensures, c.encode.ensures.word) (
      r.0,
      subst (λ (n : ℕ). form_at h.size c.args.id < n) (sym h.counted) (form_small h.size c.args.id lt),
      subst (λ (z : HeapSize). Allows (KeepsHeap h.table.shared.key) h.table.shared.table_id.slots seat.id seat.me (form_at z c.args.id)
          (λ _. word_of c.args.form) (λ _. GaveBirth (step h.table.shared.table_id.slots (form_at z c.args.id) (word_of c.args.form) 0 none)
          seat.me (word_of c.args.form))) r.1
          (bears h.table.shared.key h.table.shared.table_id.slots seat.id seat.me r.2 c.args.id c.args.form (born_in_range seat.me.0 r.5 c.args.id c.args.form c.requires.fits) c.requires.fits),
    )

pub encode-requires : goal.encode-requires
encode-requires c = born_in_range c.args.self.now.seat.me.0 c.requires.belongs.5 c.args.id c.args.form c.requires.fits

pub returns-clause-belongs : goal.returns-clause-belongs
returns-clause-belongs c = let e = c.store.ensures in belongs_then c.args.heap.now c.args.self.now (record { seat = c.store.new.seat; share = c.args.self.now.share }) c.requires.belongs refl e.0 e.2.0

pub form_place-requires : goal.form_place-requires
form_place-requires c = let r = c.requires.belongs in let h = c.args.heap.now in let own = key_of c.args.self.now.seat.me.0.own_ids c.args.id c.requires.fits.0 c.requires.fits.1 in
    (h.lawful, subst (λ (z : HeapSize). c.args.id < z.ids) r.1 ((possible_within c.args.self.now.seat.me.0 r.5).ids c.args.id own))
