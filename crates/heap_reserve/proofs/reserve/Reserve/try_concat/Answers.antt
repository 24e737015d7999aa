use Rattle.std.proofs.Common.{◌≡◌, ◌∙◌, ◌+◌, ◌++◌, false, true, ◌<◌, ◌≤◌, ap, inl, refl, subst, arith}
use mathlib.Core.Logic.{dite}
use native.Mathlib.Decide.{dec_le}
use Rattle.heap_rule.specs.declared.view.View.{View}
use Rattle.heap_rule.proofs.MapLemmas.{has_key}
use Rattle.heap_rule.proofs.Possible.{possible_short}
use Rattle.heap_read.proofs.Going.{continues_reads, continues_trans}
use Rattle.heap_read.proofs.Loaded.{reads_refl, reads_trans}
use Rattle.heap_text.specs.Joins.{MIN_CONS}
use Rattle.heap_rule.specs.declared.size.HeapSize.{HeapSize}
use Rattle.heap_table.specs.Agents.{size_of}
use Rattle.heap_reserve.specs.Making.{IsFlatAnswer}
use Rattle.heap_reserve.proofs.After.{flat_after, rope_after}
use Rattle.heap_reserve.proofs.reserve.Reserve.try_concat.Goals as goal

pub is_joinable-requires : goal.is_joinable-requires
is_joinable-requires g c = let v : View = c.args.text.now.reader.agent.seat.me.0 in let w1 : View = c.len-left.new.self.agent.seat.me.0 in let p = c.args.text.now.reader.belongs.5 in
    let s = has_key v.units c.args.a.id c.requires.known.0 in let t = has_key v.units c.args.b.id c.requires.known.1 in
    let left = c.len-left.ensures.length s.0 s.1 in let right = c.len-right.ensures.length t.0 (c.len-left.ensures.reads.view.known.units c.args.b.id t.0 t.1) in
    let a = possible_short v p c.args.a.id s.0 s.1 in let b = possible_short v p c.args.b.id t.0 t.1 in (omega (arith, left, a), omega (arith, right, b))

pub join-requires-clause-known : goal.join-requires-clause-known
join-requires-clause-known g c = let v : View = c.args.text.now.reader.agent.seat.me.0 in let w1 : View = c.len-left.new.self.agent.seat.me.0 in let w2 : View = c.len-right.new.self.agent.seat.me.0 in
    let r2 = reads_trans v w1 w2 c.len-left.ensures.reads.view c.len-right.ensures.reads.view in
    let s = has_key v.units c.args.a.id c.requires.known.0 in let t = has_key v.units c.args.b.id c.requires.known.1 in
    let left = c.len-left.ensures.length s.0 s.1 in let right = c.len-right.ensures.length t.0 (c.len-left.ensures.reads.view.known.units c.args.b.id t.0 t.1) in
    let fit = c.if-not-is_joinable.ensures.0 refl in let f0 = fit.0 in let f1 = fit.1 in
    (s.0, t.0, r2.known.units c.args.a.id s.0 s.1, r2.known.units c.args.b.id t.0 t.1, omega (arith, left, f0), omega (arith, right, f1), omega (arith, left, right))

pub returns-clause-continues : goal.returns-clause-continues
returns-clause-continues g c = let v : View = c.args.text.now.reader.agent.seat.me.0 in let w1 : View = c.len-left.new.self.agent.seat.me.0 in let w2 : View = c.len-right.new.self.agent.seat.me.0 in
    continues_trans v w2 c.join.new.reader.agent.seat.me.0 (continues_reads v w2 (reads_trans v w1 w2 c.len-left.ensures.reads.view c.len-right.ensures.reads.view)) c.join.ensures.continues.view

pub returns-clause-tried : goal.returns-clause-tried
returns-clause-tried g c us vs h k = let v : View = c.args.text.now.reader.agent.seat.me.0 in
    let w1 : View = c.len-left.new.self.agent.seat.me.0 in let w2 : View = c.len-right.new.self.agent.seat.me.0 in
    let x : View = c.join.new.reader.agent.seat.me.0 in
    let r2 = reads_trans v w1 w2 c.len-left.ensures.reads.view c.len-right.ensures.reads.view in let r = c.args.self.now in
    let s = c.join.new.self in let o = c.join.result in let a = c.args.a in let b = c.args.b in
    let left = c.len-left.ensures.length us h in let right = c.len-right.ensures.length vs (c.len-left.ensures.reads.view.known.units c.args.b.id vs k) in
    let fit = c.if-not-is_joinable.ensures.0 refl in let f0 = fit.0 in let f1 = fit.1 in let f2 = fit.2 in
    let hl = r2.known.units a.id us h in let hr = r2.known.units b.id vs k in
    let z : HeapSize = size_of (g.H.HeapRef.reached c.args.text.now.reader.heap) in
    let same : size_of (g.H.HeapRef.reached c.len-right.new.self.heap) ≡ z = ap (λ y. size_of (g.H.HeapRef.reached y)) (c.len-right.ensures.reads.heap ∙ c.len-left.ensures.reads.heap) in
    let flat = (λ (l : c.len-left.result + c.len-right.result < MIN_CONS). c.join.ensures.short l us vs hl hr) in
    let rope = (λ (l : MIN_CONS ≤ c.len-left.result + c.len-right.result). rope_after v w2 x r s r2 a b (us ++ vs) o (c.join.ensures.long l us vs hl hr)) in record {
      short = λ e. let l = e.3 in let t = flat (omega (arith, left, right, l)) in
          (t.0, t.1, flat_after v w2 x r s r2 z (us ++ vs) t.0 (subst (λ (y : HeapSize). IsFlatAnswer w2 x r s y (us ++ vs) t.0) same t.2));
      long = λ e. let l = e.3 in (rope (omega (arith, left, right, l))).made e.4 e.5;
      left = λ no_short no_long. dite (dec_le MIN_CONS (c.len-left.result + c.len-right.result))
          (λ l. (rope l).left (λ both. no_long (omega (arith, left, right, f2), omega (arith, left, f0), omega (arith, right, f1), omega (arith, left, right, l), both.0, both.1)))
          (λ l. let less : c.len-left.result + c.len-right.result < MIN_CONS = omega (arith, l) in
          absurd (no_short (omega (arith, left, right, f2), omega (arith, left, f0), omega (arith, right, f1), omega (arith, left, right, less), c.if-not-has_some.ensures.0 refl)));
    }

pub returns-then-not-has_some-clause-tried : goal.returns-then-not-has_some-clause-tried
returns-then-not-has_some-clause-tried g c us vs h k = let v : View = c.args.text.now.reader.agent.seat.me.0 in record {
  short = λ e. (let bad : false ≡ true = c.if-not-has_some.ensures.1 e.4 in absurd (cc));
  long = λ e. (let bad : false ≡ true = c.if-not-has_some.ensures.1 (inl e.4.0) in absurd (cc));
  left = λ no_short no_long. (refl, refl, reads_refl v);
}

pub returns-then-not-is_joinable-clause-tried : goal.returns-then-not-is_joinable-clause-tried
returns-then-not-is_joinable-clause-tried g c us vs h k = let v : View = c.args.text.now.reader.agent.seat.me.0 in
    let w1 : View = c.len-left.new.self.agent.seat.me.0 in let w2 : View = c.len-right.new.self.agent.seat.me.0 in
    let left = c.len-left.ensures.length us h in let right = c.len-right.ensures.length vs (c.len-left.ensures.reads.view.known.units c.args.b.id vs k) in record {
      short = λ e. let e0 = e.0 in let e1 = e.1 in let e2 = e.2 in
          let bad : false ≡ true = c.if-not-is_joinable.ensures.1 (omega (arith, left, e1), omega (arith, right, e2), omega (arith, left, right, e0)) in absurd (cc);
      long = λ e. let e0 = e.0 in let e1 = e.1 in let e2 = e.2 in
          let bad : false ≡ true = c.if-not-is_joinable.ensures.1 (omega (arith, left, e1), omega (arith, right, e2), omega (arith, left, right, e0)) in absurd (cc);
      left = λ no_short no_long. (refl, refl, reads_trans v w1 w2 c.len-left.ensures.reads.view c.len-right.ensures.reads.view);
    }
