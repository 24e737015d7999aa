use Rattle.std.proofs.Common.{◌<◌, ◌∙◌, ℕ, ap, eqb, subst, sym}
use Rattle.js_header.specs.Form.{word_of}
use Rattle.heap_rule.specs.Layout.{form_at}
use Rattle.heap_rule.specs.declared.size.HeapSize.{HeapSize}
use Rattle.atomic_table.specs.Table.{Allows, step}
use mathlib.Core.Option.{none}
use prog.Atomic.{either}
use Rattle.heap_table.specs.Rule.{KeepsHeap}
use Rattle.heap_table.specs.Plays.{FlattenedForm}
use Rattle.heap_table.proofs.Keeps.{flattens, is_flattening, cons_in_range, form_seen, form_small}
use Rattle.heap_table.proofs.agent.Agent.try_flatten.Goals as goal

pub compare_exchange-requires : goal.compare_exchange-requires
compare_exchange-requires c = let r = c.requires.belongs in let h = c.args.heap.now in let seat = c.args.self.now.seat in
    let may = is_flattening seat.me.0 c.args.id c.args.old c.args.new c.requires.may in
    let lt : c.args.id < h.size.ids = subst (λ (z : HeapSize). c.args.id < z.ids) r.1 (form_seen seat.me.0 r.5 c.args.id c.args.old may.0)
    in rw (c.form_place-place.ensures, c.encode.ensures.word, c.encode-2.ensures.word) (
      r.0,
      subst (λ (n : ℕ). form_at h.size c.args.id < n) (sym h.counted) (form_small h.size c.args.id lt),
      subst (λ (z : HeapSize). Allows (KeepsHeap h.table.shared.key) h.table.shared.table_id.slots seat.id seat.me (form_at z c.args.id)
          (λ n. either (eqb n (word_of c.args.old)) (word_of c.args.new) n)
          (FlattenedForm (step h.table.shared.table_id.slots (form_at z c.args.id) (word_of c.args.old) (word_of c.args.new) none) seat.me)) r.1
          (flattens h.table.shared.key h.table.shared.table_id.slots seat.id seat.me r.2 c.args.id c.args.old c.args.new
          (cons_in_range seat.me.0 r.5 c.args.id c.args.old may.0 may.1) may.2 c.requires.may),
    )

pub encode-requires : goal.encode-requires
encode-requires c = let r = c.requires.belongs in
    let may = is_flattening c.args.self.now.seat.me.0 c.args.id c.args.old c.args.new c.requires.may in cons_in_range
    c.args.self.now.seat.me.0 r.5 c.args.id c.args.old may.0 may.1

pub encode-requires-2 : goal.encode-requires-2
encode-requires-2 c = (is_flattening c.args.self.now.seat.me.0 c.args.id c.args.old c.args.new c.requires.may).2

pub form_place-place-requires : goal.form_place-place-requires
form_place-place-requires c = let r = c.requires.belongs in let h = c.args.heap.now in let may = is_flattening c.args.self.now.seat.me.0 c.args.id c.args.old c.args.new c.requires.may in
    (h.lawful, subst (λ (z : HeapSize). c.args.id < z.ids) r.1 (form_seen c.args.self.now.seat.me.0 r.5 c.args.id c.args.old may.0))

pub returns-clause-view : goal.returns-clause-view
returns-clause-view c = let r = c.requires.belongs in let v = c.args.self.now.seat.me.0 in let may = is_flattening v c.args.id c.args.old c.args.new c.requires.may in
    (c.compare_exchange.ensures.2.2 c.args.id c.args.old c.args.new (c.form_place-place.ensures ∙ ap (λ (z : HeapSize). form_at z c.args.id) (sym r.1)) c.encode.ensures.word c.encode-2.ensures.word
    (cons_in_range v r.5 c.args.id c.args.old may.0 may.1) may.2).0

pub returns-clause-settled : goal.returns-clause-settled
returns-clause-settled c = let r = c.requires.belongs in let v = c.args.self.now.seat.me.0 in let may = is_flattening v c.args.id c.args.old c.args.new c.requires.may in
    (c.compare_exchange.ensures.2.2 c.args.id c.args.old c.args.new (c.form_place-place.ensures ∙ ap (λ (z : HeapSize). form_at z c.args.id) (sym r.1)) c.encode.ensures.word c.encode-2.ensures.word
    (cons_in_range v r.5 c.args.id c.args.old may.0 may.1) may.2).1
