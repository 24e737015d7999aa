use Rattle.std.proofs.Common.{◌≡◌, ◌-◌, ◌<◌, ◌≤◌, ◌⊎◌, inl, inr, ◌∙◌, ap, refl, ℕ, true, false, List, length, sym, subst, arith, Some}
use mathlib.Core.Logic.{dite}
use native.Mathlib.Decide.{ℕ_discrete, dec_le}
use Rattle.heap_rule.specs.declared.view.View.{View}
use Rattle.heap_rule.specs.Births.{part}
use Rattle.heap_text.specs.Joins.{MIN_CONS}
use Rattle.heap_rule.specs.declared.size.HeapSize.{HeapSize}
use Rattle.heap_table.specs.Agents.{size_of}
use Rattle.heap_read.proofs.Going.{continues_reads, continues_trans}
use Rattle.heap_read.proofs.Loaded.{reads_refl}
use Rattle.heap_reserve.specs.Making.{IsFlatAnswer}
use Rattle.heap_reserve.proofs.After.{cut_made_after, flat_after}
use Rattle.heap_reserve.proofs.reserve.Reserve.try_slice.Goals as goal

pub returns-clause-tried : goal.returns-clause-tried
returns-clause-tried g c us h = let v : View = c.args.text.now.reader.agent.seat.me.0 in let u : View = c.len-n.new.self.agent.seat.me.0 in let x : View = c.cut.new.reader.agent.seat.me.0 in
    let read = c.len-n.ensures.reads.view in let r = c.args.self.now in let s = c.cut.new.self in let o = c.cut.result in
    let p = c.args.s in let from = c.args.from in let to = c.args.to in let n : ℕ = to - from in
    let count = c.len-n.ensures.length us h in let known = read.known.units p.id us h in let t = c.requires.within in
    let is : t.0 ≡ us = (let both : Some t.0 ≡ Some us = sym t.1 ∙ h in cc) in let high : to ≤ length us = subst (λ (xs : List ℕ). to ≤ length xs) is t.3 in
    let other : (0 < from) ⊎ (to < length us) = dite (ℕ_discrete from 0)
    (λ none. dite (ℕ_discrete to c.len-n.result) (λ all. let whole : false ≡ true = c.if-is_whole.ensures.1 (none, all) in absurd (cc)) (λ ne. inr (omega (arith, ne, count, high))))
    (λ some. inl (omega (arith, some))) in
    let z : HeapSize = size_of (g.H.HeapRef.reached c.args.text.now.reader.heap) in
    let same : size_of (g.H.HeapRef.reached c.len-n.new.self.heap) ≡ z = ap (λ y. size_of (g.H.HeapRef.reached y)) c.len-n.ensures.reads.heap in
    let flat = (λ (l : n < MIN_CONS). c.cut.ensures.short l us known) in
    let cut = (λ (l : MIN_CONS ≤ n). cut_made_after v u x r s read p from (part from n us) o (c.cut.ensures.long l us known)) in record {
      short = λ e. let t = flat e.1 in
          (t.0, t.1, flat_after v u x r s read z (part from n us) t.0 (subst (λ (y : HeapSize). IsFlatAnswer u x r s y (part from n us) t.0) same t.2));
      long = λ e. (cut e.1).made e.2;
      left = λ no_short no_long. dite (dec_le MIN_CONS n)
          (λ l. (cut l).left (λ above. no_long (other, l, above)))
          (λ l. let less : n < MIN_CONS = omega (arith, l) in absurd (no_short (other, less, c.if-not-has_some.ensures.0 refl)));
    }

pub returns-then-not-has_some-clause-tried : goal.returns-then-not-has_some-clause-tried
returns-then-not-has_some-clause-tried g c us h = let v : View = c.args.text.now.reader.agent.seat.me.0 in record {
  short = λ e. (let bad : false ≡ true = c.if-not-has_some.ensures.1 e.2 in absurd (cc));
  long = λ e. (let bad : false ≡ true = c.if-not-has_some.ensures.1 (inl e.2.0) in absurd (cc));
  left = λ no_short no_long. (refl, refl, reads_refl v);
}

pub returns-clause-continues : goal.returns-clause-continues
returns-clause-continues g c = let v : View = c.args.text.now.reader.agent.seat.me.0 in let u : View = c.len-n.new.self.agent.seat.me.0 in
    continues_trans v u c.cut.new.reader.agent.seat.me.0 (continues_reads v u c.len-n.ensures.reads.view) c.cut.ensures.continues.view
