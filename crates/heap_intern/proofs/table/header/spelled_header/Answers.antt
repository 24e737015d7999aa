use Rattle.std.proofs.Common.{◌≡◌, ◌<◌, ◌≤◌, ◌+◌, ◌-◌, ◌∙◌, ℕ, Bool, List, length, ap, subst, sym, arith}
use Rattle.js_units.specs.Lanes.{words_over}
use Rattle.heap_rule.specs.Layout.{MAX}
use Rattle.heap_rule.specs.Maps.{HasKey}
use Rattle.heap_rule.specs.declared.size.HeapSize.{HeapSize}
use Rattle.heap_rule.specs.declared.view.View.{View}
use Rattle.heap_table.specs.Full.{IsFull}
use Rattle.heap_bytes.specs.Spellings.{spelling_units}
use Rattle.heap_read.proofs.Showing.{forms_held}
use Rattle.heap_intern.specs.Answers.{copy_plan, words_of_copy}
use Rattle.heap_intern.proofs.Copies.{copied_over, spared_as}
use Rattle.heap_intern.proofs.Going.{forms_trans, goes_continues}
use Rattle.heap_intern.proofs.Planning.{header_of}
use Rattle.heap_intern.proofs.table.header.spelled_header.Goals as goal

pub returns-in-Err-clause-goes : goal.returns-in-Err-clause-goes
returns-in-Err-clause-goes g c = let v : View = c.args.reader.now.agent.seat.me.0 in
    let w : View = c.write_spelled.new.reader.agent.seat.me.0 in let e = c.write_spelled.ensures in goes_continues v w e.continues.view e.own_ids e.stays

pub returns-in-Err-clause-forms : goal.returns-in-Err-clause-forms
returns-in-Err-clause-forms g c = forms_held c.args.reader.now.agent.seat.me.0 c.write_spelled.new.reader.agent.seat.me.0 c.write_spelled.ensures.forms.0

pub returns-in-Err-clause-slots : goal.returns-in-Err-clause-slots
returns-in-Err-clause-slots g c = c.write_spelled.ensures.continues.view.slots

pub returns-in-Err-clause-loads : goal.returns-in-Err-clause-loads
returns-in-Err-clause-loads g c = c.write_spelled.ensures.continues.view.slot_loads

pub returns-in-Err-clause-err : goal.returns-in-Err-clause-err
returns-in-Err-clause-err g c = let w : View = c.write_spelled.new.reader.agent.seat.me.0 in let us : List ℕ = spelling_units c.args.source.now in
    let f = c.in-Err.ensures.refused in let wide = c.is_wide-wide.result in let n = c.len-n.result in
    let words : words_over wide n ≡ words_of_copy us = (λ j. words_over (c.is_wide-wide.ensures j) (c.len-n.ensures j)) in (
      subst (λ (m : ℕ). IsFull c.in-Err.full m w.sizes.words) words (subst
          (λ (z : HeapSize). IsFull c.in-Err.full (words_over wide n) z.words)
          (sym (c.write_spelled.ensures.continues.view.sizes ∙ c.args.reader.now.belongs.1)) f.0),
      f.1,
      c.write_spelled.ensures.ids,
      f.2,
    )

pub bear-requires : goal.bear-requires
bear-requires g c = let w : View = c.write_spelled.new.reader.agent.seat.me.0 in let us : List ℕ = spelling_units c.args.source.now in
    let n = c.len-n.result in let short : n ≤ MAX = omega (arith, c.len-n.ensures, c.requires.short) in
    record { over = (us, copied_over w c.is_wide-wide.result c.in-Ok.start n us c.in-Ok.ensures.ok.0 c.len-n.ensures short) }

pub returns-in-Ok-bear-clause-goes : goal.returns-in-Ok-bear-clause-goes
returns-in-Ok-bear-clause-goes g c = let v : View = c.args.reader.now.agent.seat.me.0 in let w : View = c.write_spelled.new.reader.agent.seat.me.0 in let e = c.write_spelled.ensures in
    c.bear.ensures.goes v (goes_continues v w e.continues.view e.own_ids e.stays)
    (λ q lo hi own. let d : q ≡ c.in-Ok.start + (q - c.in-Ok.start) = omega arith in c.in-Ok.ensures.fresh (q - c.in-Ok.start) (omega arith) (subst (HasKey v.own_words) d own))

pub returns-in-Ok-bear-clause-forms : goal.returns-in-Ok-bear-clause-forms
returns-in-Ok-bear-clause-forms g c = let v : View = c.args.reader.now.agent.seat.me.0 in
    let w : View = c.write_spelled.new.reader.agent.seat.me.0 in let x : View = c.bear.new.reader.agent.seat.me.0 in
    forms_trans v w x (forms_held v w c.write_spelled.ensures.forms.0) c.bear.ensures.forms

pub returns-in-Ok-bear-clause-slots : goal.returns-in-Ok-bear-clause-slots
returns-in-Ok-bear-clause-slots g c = c.bear.ensures.slots ∙ c.write_spelled.ensures.continues.view.slots

pub returns-in-Ok-bear-clause-loads : goal.returns-in-Ok-bear-clause-loads
returns-in-Ok-bear-clause-loads g c = c.bear.ensures.loads ∙ c.write_spelled.ensures.continues.view.slot_loads

pub returns-in-Err-bear-clause-goes : goal.returns-in-Err-bear-clause-goes
returns-in-Err-bear-clause-goes g c = let v : View = c.args.reader.now.agent.seat.me.0 in let w : View = c.write_spelled.new.reader.agent.seat.me.0 in let e = c.write_spelled.ensures in
    c.bear.ensures.goes v (goes_continues v w e.continues.view e.own_ids e.stays)
    (λ q lo hi own. let d : q ≡ c.in-Ok.start + (q - c.in-Ok.start) = omega arith in c.in-Ok.ensures.fresh (q - c.in-Ok.start) (omega arith) (subst (HasKey v.own_words) d own))

pub returns-in-Err-bear-clause-forms : goal.returns-in-Err-bear-clause-forms
returns-in-Err-bear-clause-forms g c = let v : View = c.args.reader.now.agent.seat.me.0 in
    let w : View = c.write_spelled.new.reader.agent.seat.me.0 in let x : View = c.bear.new.reader.agent.seat.me.0 in
    forms_trans v w x (forms_held v w c.write_spelled.ensures.forms.0) c.bear.ensures.forms

pub returns-in-Err-bear-clause-slots : goal.returns-in-Err-bear-clause-slots
returns-in-Err-bear-clause-slots g c = c.bear.ensures.slots ∙ c.write_spelled.ensures.continues.view.slots

pub returns-in-Err-bear-clause-loads : goal.returns-in-Err-bear-clause-loads
returns-in-Err-bear-clause-loads g c = c.bear.ensures.loads ∙ c.write_spelled.ensures.continues.view.slot_loads

pub returns-in-Ok-bear-clause-ok : goal.returns-in-Ok-bear-clause-ok
returns-in-Ok-bear-clause-ok g c = let v : View = c.args.reader.now.agent.seat.me.0 in
    let w : View = c.write_spelled.new.reader.agent.seat.me.0 in let us : List ℕ = spelling_units c.args.source.now in let n = c.len-n.result in
    let wide = c.is_wide-wide.result in
    let short : n ≤ MAX = omega (arith, c.len-n.ensures, c.requires.short) in let words : words_over wide n ≡ words_of_copy us = (λ j. words_over (c.is_wide-wide.ensures j) (c.len-n.ensures j)) in (
      header_of c.bear.new.reader.agent.seat.me.0 (copy_plan us) wide c.in-Ok.start us c.in-Ok-bear.id
          (c.in-Ok-bear.ensures.ok us (copied_over w wide c.in-Ok.start n us c.in-Ok.ensures.ok.0 c.len-n.ensures short)) c.is_wide-wide.ensures tt,
      c.bear.ensures.words ∙ (c.in-Ok.ensures.ok.1 ∙ ap (λ (m : ℕ). v.used.words + m) words),
    )

pub returns-in-Ok-bear-clause-used : goal.returns-in-Ok-bear-clause-used
returns-in-Ok-bear-clause-used g c = c.in-Ok-bear.ensures.used ∙ ap (λ (n : ℕ). n + 1) c.write_spelled.ensures.ids

pub returns-in-Err-bear-clause-err : goal.returns-in-Err-bear-clause-err
returns-in-Err-bear-clause-err g c = let v : View = c.args.reader.now.agent.seat.me.0 in
    let w : View = c.write_spelled.new.reader.agent.seat.me.0 in let x : View = c.bear.new.reader.agent.seat.me.0 in
    let us : List ℕ = spelling_units c.args.source.now in
    let n = c.len-n.result in let wide = c.is_wide-wide.result in
    let words : words_over wide n ≡ words_of_copy us = (λ j. words_over (c.is_wide-wide.ensures j) (c.len-n.ensures j)) in
    let f = c.in-Err-bear.ensures.err in (
      f.0,
      f.1,
      f.2 ∙ c.write_spelled.ensures.ids,
      c.bear.ensures.words ∙ (c.in-Ok.ensures.ok.1 ∙ ap (λ (m : ℕ). v.used.words + m) words),
      spared_as v w x wide c.in-Ok.start us _ _ c.in-Ok.ensures.ok.0.words f.3 (ap (λ (b : Bool). words_over b (length us)) c.is_wide-wide.ensures)
          (λ q small own. c.in-Ok.ensures.fresh q (subst (λ (m : ℕ). q < words_over wide m) (sym c.len-n.ensures) small) own),
    )
