use Rattle.std.proofs.Common.{◌≡◌, ◌+◌, ◌<◌, ◌∙◌, ⊎_elim, ℕ, List, suc, refl, ap, subst, sym, arith}
use Rattle.js_units.specs.Lanes.{IsWordOf, words_over}
use Rattle.std.specs.FinMap.{FinMap}
use Rattle.std.specs.Ordering.{nat_cmp}
use Rattle.heap_rule.specs.declared.view.View.{View}
use Rattle.heap_rule.specs.Maps.{Has, HasKey}
use Rattle.heap_rule.proofs.MapLemmas.{insert_other}
use Rattle.heap_rule.proofs.Possible.{possible_lawful}
use Rattle.heap_rule.proofs.Steps.{possible_within}
use Rattle.heap_table.specs.Known.{KeepsKnown}
use Rattle.heap_read.specs.Reads.{WritesOwnWords}
use Rattle.heap_read.specs.Sources.{source_units}
use Rattle.heap_read.specs.Written.{AreWords}
use Rattle.heap_read.proofs.Going.{known_stored, words_stored}
use Rattle.heap_read.proofs.Loaded.{key_more}
use Rattle.heap_read.proofs.Listing.{listed_same, shows_kept}
use Rattle.heap_read.proofs.Showing.{forms_held}
use Rattle.heap_read.proofs.Storing.{writes_reads, writes_refl, writes_stored, writes_trans}
use Rattle.heap_read.proofs.WindowLemmas.{forms_trans}
use Rattle.heap_read.proofs.reader.Reader.write_at.Goals as goal

pub loop-at-init : goal.loop-at-init
loop-at-init g c = record {
  heap = refl;
  writes = writes_refl c.args.self.now.agent.seat.me.0;
  forms = (refl, refl);
  shows = c.requires.shows;
  same = refl;
  own = c.requires.own;
  others = λ q x side h. h;
  done = record { each = λ q l. absurd (omega arith) };
}

pub overflow_add-start : goal.overflow_add-start
overflow_add-start g c = let p : View = c.pack-word.new.self.agent.seat.me.0 in let possible = c.pack-word.new.self.belongs.5 in
    let own : HasKey p.own_words (c.args.start + c.loop-at.at) = subst (λ (m : FinMap nat_cmp ℕ). HasKey m (c.args.start + c.loop-at.at))
    (sym c.pack-word.ensures.reads.view.own_words) (c.loop-at.invariant.own c.loop-at.at (omega arith)) in
    let a = (possible_within p possible).words (c.args.start + c.loop-at.at) own in let b = (possible_lawful p possible).3 in omega arith

pub loop-at-preserved : goal.loop-at-preserved
loop-at-preserved g c = let v : View = c.args.self.now.agent.seat.me.0 in let u : View = c.loop-at.self.agent.seat.me.0 in
    let p : View = c.pack-word.new.self.agent.seat.me.0 in let w : View = c.store_word.new.self.seat.me.0 in
    let i = c.loop-at.invariant in let e = c.pack-word.ensures in let f = c.store_word.ensures in let start = c.args.start in let at = c.loop-at.at in let word = c.pack-word.result in
    let us : List ℕ = source_units v c.args.source.now in let known : KeepsKnown p w = subst (KeepsKnown p) (sym f.view) (known_stored p (start + at) word) in
    let done : AreWords p c.args.wide start us at = record {
      each = λ q l. let t = i.done.each q l in
          (t.0, subst (λ (m : FinMap nat_cmp ℕ). Has m (start + q) t.0) (sym e.reads.view.own_words) t.1, t.2);
    } in
    let next : suc at ≡ at + 1 = omega arith in let is : IsWordOf c.args.wide us at word = subst (λ (xs : List ℕ). IsWordOf c.args.wide xs at word) i.same e.word in
    let here : at < words_over c.args.wide c.args.n = omega arith in record {
      heap = e.reads.heap ∙ i.heap;
      writes = writes_trans v u w i.writes (writes_trans u p w (writes_reads u p e.reads.view) (subst (WritesOwnWords p) (sym f.view) (writes_stored p (start + at) word)));
      forms = forms_trans v u w i.forms (forms_trans u p w e.forms (ap (λ (x : View). x.forms) f.view, ap (λ (x : View). x.form_loads) f.view));
      shows = shows_kept p w c.args.source.now known (forms_held p w (ap (λ (x : View). x.forms) f.view)) e.shows;
      same = listed_same p w c.args.source.now known e.shows ∙ (e.listed ∙ i.same);
      own = λ q l. subst (λ (x : View). HasKey x.own_words (start + q)) (sym f.view)
          (key_more p.own_words (start + at) (start + q) word (subst (λ (m : FinMap nat_cmp ℕ). HasKey m (start + q)) (sym e.reads.view.own_words) (i.own q l)));
      others = λ q x side h. let old : Has p.own_words q x = subst (λ (m : FinMap nat_cmp ℕ). Has m q x) (sym e.reads.view.own_words) (i.others q x side h) in
          subst (λ (y : View). Has y.own_words q x) (sym f.view) (insert_other p.own_words (start + at) q word
          (λ d. ⊎_elim (λ l. absurd (omega (arith, d, l))) (λ l. absurd (omega (arith, d, l, here))) side) ∙ old);
      done = subst (λ (d : ℕ). AreWords w c.args.wide start us d) next
          (subst (λ (x : View). AreWords x c.args.wide start us (suc at)) (sym f.view) (words_stored p c.args.wide start at word us done is));
    }
