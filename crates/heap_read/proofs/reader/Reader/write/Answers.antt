use Rattle.std.proofs.Common.{◌≡◌, ◌+◌, ◌<◌, ◌∙◌, ◌^◌, inl, Bool, true, false, ℕ, List, length, ap, subst, sym, arith}
use Rattle.js_units.specs.Lanes.{is_wide, words_over}
use Rattle.heap_rule.specs.declared.view.View.{View}
use Rattle.heap_rule.specs.declared.size.Counter.TheVariants.{Words}
use Rattle.heap_rule.specs.declared.size.Counters.{Counters}
use Rattle.heap_rule.specs.Claims.{won_claim}
use Rattle.heap_rule.specs.Maps.{Has, HasKey}
use Rattle.heap_rule.proofs.MapLemmas.{key_of}
use Rattle.heap_rule.proofs.Possible.{possible_lawful}
use Rattle.heap_rule.proofs.Steps.{possible_within}
use Rattle.heap_table.specs.Known.{KeepsKnown}
use Rattle.heap_read.specs.Sources.{source_units}
use Rattle.heap_read.specs.Written.{AreWords}
use Rattle.heap_read.proofs.Going.{continues_trans, continues_words, known_words, run_below, run_kept, run_keys}
use Rattle.heap_read.proofs.Listing.{listed_same, shows_kept}
use Rattle.heap_read.proofs.Showing.{forms_held}
use Rattle.heap_read.proofs.Storing.{continues_writes}
use Rattle.heap_read.proofs.WindowLemmas.{forms_trans}
use Rattle.heap_read.proofs.reader.Reader.write.Goals as goal

-- what the source shows, and the words that were claimed
pub write_at-requires-clause-shows : goal.write_at-requires-clause-shows
write_at-requires-clause-shows g c = let v : View = c.args.self.now.agent.seat.me.0 in let w : View = c.claim_words.new.self.seat.me.0 in let e = c.in_ok-start.ensures in
    let known : KeepsKnown v w = subst (KeepsKnown v) (sym e.view) (known_words v c.in_ok-start.start c.words_for-want.result) in
    shows_kept v w c.args.source.now known (forms_held v w (ap (λ (x : View). x.forms) e.view)) c.requires.shows

pub write_at-requires-clause-count : goal.write_at-requires-clause-count
write_at-requires-clause-count g c = let v : View = c.args.self.now.agent.seat.me.0 in let w : View = c.claim_words.new.self.seat.me.0 in let e = c.in_ok-start.ensures in
    let known : KeepsKnown v w = subst (KeepsKnown v) (sym e.view) (known_words v c.in_ok-start.start c.words_for-want.result) in
    ap length (listed_same v w c.args.source.now known c.requires.shows) ∙ c.requires.count

pub write_at-requires-clause-wide : goal.write_at-requires-clause-wide
write_at-requires-clause-wide g c = let v : View = c.args.self.now.agent.seat.me.0 in let w : View = c.claim_words.new.self.seat.me.0 in let e = c.in_ok-start.ensures in
    let known : KeepsKnown v w = subst (KeepsKnown v) (sym e.view) (known_words v c.in_ok-start.start c.words_for-want.result) in
    c.requires.wide ∙ ap is_wide (sym (listed_same v w c.args.source.now known c.requires.shows))

pub write_at-requires-clause-own : goal.write_at-requires-clause-own
write_at-requires-clause-own g c q l = let v : View = c.args.self.now.agent.seat.me.0 in let start = c.in_ok-start.start in let want = c.words_for-want.result in let e = c.in_ok-start.ensures in
    subst (λ (x : View). HasKey x.own_words (start + q)) (sym e.view) (run_keys v.own_words start want q 0 (omega (arith, l, c.words_for-want.ensures)))

pub returns-clause-continues : goal.returns-clause-continues
returns-clause-continues g c = let v : View = c.args.self.now.agent.seat.me.0 in let w : View = c.claim_words.new.self.seat.me.0 in
    let x : View = c.write_at.new.self.agent.seat.me.0 in let e = c.in_ok-start.ensures in
    record {
      heap = c.write_at.ensures.writes.heap;
      view = continues_trans v w x
          (continues_words v w c.in_ok-start.start c.words_for-want.result e.view e.low) (continues_writes w x c.write_at.ensures.writes.view);
    }

pub returns-clause-ids : goal.returns-clause-ids
returns-clause-ids g c = ap (λ (n : Counters). n.ids) c.write_at.ensures.writes.view.used ∙ ap (λ (x : View). x.used.ids) c.in_ok-start.ensures.view

pub returns-clause-own_ids : goal.returns-clause-own_ids
returns-clause-own_ids g c = c.write_at.ensures.writes.view.own_ids ∙ ap (λ (x : View). x.own_ids) c.in_ok-start.ensures.view

pub returns-clause-own_words : goal.returns-clause-own_words
returns-clause-own_words g c q h = let v : View = c.args.self.now.agent.seat.me.0 in let e = c.in_ok-start.ensures in
    c.write_at.ensures.writes.view.own_words q (subst (λ (x : View). HasKey x.own_words q) (sym e.view) (run_kept v.own_words c.in_ok-start.start c.words_for-want.result q 0 h))

pub returns-clause-ok : goal.returns-clause-ok
returns-clause-ok g c = let v : View = c.args.self.now.agent.seat.me.0 in let w : View = c.claim_words.new.self.seat.me.0 in let x : View = c.write_at.new.self.agent.seat.me.0 in
    let start = c.in_ok-start.start in let want = c.words_for-want.result in let e = c.in_ok-start.ensures in let f = c.write_at.ensures in
    let us : List ℕ = source_units v c.args.source.now in let wide = c.args.wide in
    let known : KeepsKnown v w = subst (KeepsKnown v) (sym e.view) (known_words v start want) in
    let words : want ≡ words_over wide c.args.n = c.words_for-want.ensures in
    let own : HasKey x.own_words start = f.writes.view.own_words start
    (subst (λ (y : View). HasKey y.own_words start) (sym e.view) (subst (HasKey (won_claim v Words start want).own_words) (here start)
    (run_keys v.own_words start want 0 0 (omega (arith, c.if-want-eq0.false))))) in
    let p = c.write_at.new.self.belongs.5 in let a = (possible_within x p).words start own in let b = (possible_lawful x p).3 in
    let small : start < 2 ^ 29 = omega (arith, a, b) in
    let all : AreWords x wide start us (words_over wide c.args.n) = subst
    (λ (xs : List ℕ). AreWords x wide start xs (words_over wide c.args.n)) (listed_same v w c.args.source.now known c.requires.shows) f.written in (
      record {
        small = small;
        words = subst (λ (n : ℕ). AreWords x wide start us (words_over wide n)) (sym c.requires.count) all;
        empty = λ none. absurd (c.if-want-eq0.false (nothing wide c.args.n want words (sym c.requires.count ∙ none)));
      },
      ap (λ (n : Counters). n.words) f.writes.view.used ∙ (ap (λ (y : View). y.used.words) e.view ∙ ap (λ (m : ℕ). v.used.words + m) words),
    )
  where
    here : (n : ℕ) → n + 0 ≡ n
    here n = omega arith

    nothing : (wide : Bool) (n want : ℕ) → want ≡ words_over wide n → n ≡ 0 → want ≡ 0
    nothing wide n want e none = e ∙ (ap (words_over wide) none ∙ zero_words wide)
      where
        zero_words : (wide : Bool) → words_over wide 0 ≡ 0
        zero_words true = omega arith
        zero_words false = omega arith

pub returns-clause-forms : goal.returns-clause-forms
returns-clause-forms g c = let v : View = c.args.self.now.agent.seat.me.0 in let w : View = c.claim_words.new.self.seat.me.0 in
    let x : View = c.write_at.new.self.agent.seat.me.0 in let e = c.in_ok-start.ensures in
    forms_trans v w x (ap (λ (y : View). y.forms) e.view, ap (λ (y : View). y.form_loads) e.view) c.write_at.ensures.forms

pub returns-clause-stays : goal.returns-clause-stays
returns-clause-stays g c q y h = let v : View = c.args.self.now.agent.seat.me.0 in let start = c.in_ok-start.start in let e = c.in_ok-start.ensures in
    let above = e.above_own q (key_of v.own_words q y h) in
    c.write_at.ensures.others q y (inl above) (subst (λ (x : View). Has x.own_words q y) (sym e.view) (run_below v.own_words start c.words_for-want.result q 0 y above h))

pub returns-clause-fresh : goal.returns-clause-fresh
returns-clause-fresh g c q l own = let above = c.in_ok-start.ensures.above_own (c.in_ok-start.start + q) own in omega arith
