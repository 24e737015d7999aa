use Rattle.std.proofs.Common.{◌≡◌, ◌+◌, ◌<◌, ◌∙◌, ◌^◌, inl, ℕ, List, ap, length, subst, sym, arith}
use Rattle.js_units.specs.Lanes.{words_over}
use Rattle.heap_rule.specs.declared.size.Counters.{Counters}
use Rattle.heap_rule.specs.declared.view.View.{View}
use Rattle.heap_rule.specs.Maps.{Has, HasKey}
use Rattle.heap_rule.proofs.MapLemmas.{key_of}
use Rattle.heap_rule.proofs.Possible.{possible_lawful}
use Rattle.heap_rule.proofs.Steps.{possible_within}
use Rattle.heap_read.specs.Written.{AreWords}
use Rattle.heap_read.proofs.Going.{continues_trans, continues_words, run_below, run_kept, run_keys}
use Rattle.heap_read.proofs.Storing.{continues_writes}
use Rattle.heap_read.proofs.WindowLemmas.{forms_trans}
use Rattle.heap_bytes.specs.Spellings.{spelling_units}
use Rattle.heap_bytes.proofs.Runs.{no_words, run_zero}
use Rattle.heap_bytes.proofs.writing.write_spelled.Goals as goal

pub spell_at-requires-clause-own : goal.spell_at-requires-clause-own
spell_at-requires-clause-own g c q l = let v : View = c.args.reader.now.agent.seat.me.0 in let start = c.in_ok-start.start in let want = c.words_for-want.result in let e = c.in_ok-start.ensures in
    subst (λ (x : View). Has x.own_words (start + q) 0) (sym e.view) (run_zero v.own_words start want q (omega (arith, l, c.words_for-want.ensures)))

pub returns-clause-continues : goal.returns-clause-continues
returns-clause-continues g c = let v : View = c.args.reader.now.agent.seat.me.0 in let w : View = c.claim_words.new.self.seat.me.0 in let x : View = c.spell_at.new.reader.agent.seat.me.0 in
    let start = c.in_ok-start.start in let want = c.words_for-want.result in let e = c.in_ok-start.ensures in let f = c.spell_at.ensures in
    record { heap = f.writes.heap; view = continues_trans v w x (continues_words v w start want e.view e.low) (continues_writes w x f.writes.view) }

pub returns-clause-ids : goal.returns-clause-ids
returns-clause-ids g c = let e = c.in_ok-start.ensures in let f = c.spell_at.ensures in ap (λ (n : Counters). n.ids) f.writes.view.used ∙ ap (λ (x : View). x.used.ids) e.view

pub returns-clause-own_ids : goal.returns-clause-own_ids
returns-clause-own_ids g c = let e = c.in_ok-start.ensures in let f = c.spell_at.ensures in f.writes.view.own_ids ∙ ap (λ (x : View). x.own_ids) e.view

pub returns-clause-own_words : goal.returns-clause-own_words
returns-clause-own_words g c q h = let v : View = c.args.reader.now.agent.seat.me.0 in let start = c.in_ok-start.start in let want = c.words_for-want.result in let e = c.in_ok-start.ensures in
    c.spell_at.ensures.writes.view.own_words q (subst (λ (x : View). HasKey x.own_words q) (sym e.view) (run_kept v.own_words start want q 0 h))

pub returns-clause-ok : goal.returns-clause-ok
returns-clause-ok g c = let v : View = c.args.reader.now.agent.seat.me.0 in let x : View = c.spell_at.new.reader.agent.seat.me.0 in
    let start = c.in_ok-start.start in let want = c.words_for-want.result in let e = c.in_ok-start.ensures in let f = c.spell_at.ensures in
    let us : List ℕ = spelling_units c.args.source.now in let wide = c.args.wide in
    let words : want ≡ words_over wide (length us) = c.words_for-want.ensures ∙ ap (words_over wide) (sym c.requires.count) in
    let some : 0 < words_over wide (length us) = omega (arith, words, c.if-want-eq0.false) in
    let own : HasKey x.own_words (start + 0) = f.writes.view.own_words (start + 0)
    (subst (λ (y : View). HasKey y.own_words (start + 0)) (sym e.view) (run_keys v.own_words start want 0 0 (omega (arith, some, words)))) in
    let p = c.spell_at.new.reader.belongs.5 in let a = (possible_within x p).words (start + 0) own in let b = (possible_lawful x p).3 in
    let small : start < 2 ^ 29 = omega (arith, a, b) in (
      record { small = small; words = subst (λ (n : ℕ). AreWords x wide start us (words_over wide n)) (sym c.requires.count) f.written; empty = λ none. absurd (no_words wide (length us) some none) },
      ap (λ (n : Counters). n.words) f.writes.view.used ∙ (ap (λ (y : View). y.used.words) e.view ∙ ap (λ (m : ℕ). v.used.words + m) c.words_for-want.ensures),
    )

pub returns-clause-forms : goal.returns-clause-forms
returns-clause-forms g c = let v : View = c.args.reader.now.agent.seat.me.0 in let w : View = c.claim_words.new.self.seat.me.0 in
    let x : View = c.spell_at.new.reader.agent.seat.me.0 in let e = c.in_ok-start.ensures in
    forms_trans v w x (ap (λ (y : View). y.forms) e.view, ap (λ (y : View). y.form_loads) e.view) c.spell_at.ensures.forms

pub returns-clause-stays : goal.returns-clause-stays
returns-clause-stays g c q y h = let v : View = c.args.reader.now.agent.seat.me.0 in let start = c.in_ok-start.start in let want = c.words_for-want.result in let e = c.in_ok-start.ensures in
    let above = e.above_own q (key_of v.own_words q y h) in
    c.spell_at.ensures.others q y (inl above) (subst (λ (x : View). Has x.own_words q y) (sym e.view) (run_below v.own_words start want q 0 y above h))

pub returns-clause-fresh : goal.returns-clause-fresh
returns-clause-fresh g c q l own = let above = c.in_ok-start.ensures.above_own (c.in_ok-start.start + q) own in omega arith
