use Rattle.std.proofs.Common.{◌≡◌, ◌∙◌, ◌-◌, List, ℕ, ap, subst, sym, Some, None}
use Rattle.std.specs.Prelude.{Ok}
use Rattle.heap_rule.specs.declared.size.HeapSize.{HeapSize}
use Rattle.heap_rule.specs.declared.view.View.{View}
use Rattle.heap_table.specs.Agents.{size_of}
use Rattle.heap_text.specs.Joins.{IsCut}
use Rattle.heap_text.proofs.Owned.{own_reads, own_trans}
use Rattle.heap_rule.specs.Births.{part}
use Rattle.heap_reserve.specs.Making.{IsFlatAnswer, IsLongCut, IsShortCut}
use Rattle.heap_reserve.specs.Trying.{TriesCut}
use Rattle.heap_reserve.proofs.After.{cut_after}
use Rattle.heap_reserve.proofs.Kept.{reserve_kept}
use Rattle.heap_reserve.proofs.Tried.{cut_made, cut_shows, cut_told}
use Rattle.heap_reserve.proofs.reserve.Reserve.slice.Goals as goal

pub returns-in-Some-clause-cut : goal.returns-in-Some-clause-cut
returns-in-Some-clause-cut g c us h = let v : View = c.args.text.now.reader.agent.seat.me.0 in let w : View = c.try_slice.new.text.reader.agent.seat.me.0 in
    let r = c.args.self.now in let s = c.try_slice.new.self in let z : HeapSize = size_of (g.H.HeapRef.reached c.args.text.now.reader.heap) in
    let m = c.try_slice.ensures.tried us h in let made = c.in-Some.made in record {
      short = λ e. let t = m.short e in let o : Some made ≡ Some t.0 = sym c.in-Some.is ∙ t.1 in let same : t.0 ≡ made = cc in subst (IsFlatAnswer v w r s z (part c.args.from (c.args.to - c.args.from) us)) same t.2;
      long = λ e. let t = m.long e in let o : Some made ≡ Some (Ok t.0) = sym c.in-Some.is ∙ t.1 in let same : made ≡ Ok t.0 = cc in (t.0, same, t.2);
      claimed = λ no_short no_long. let t = m.left no_short no_long in let o : Some made ≡ None = sym c.in-Some.is ∙ t.0 in absurd (cc);
    }

pub returns-in-None-clause-reserve : goal.returns-in-None-clause-reserve
returns-in-None-clause-reserve g c = reserve_kept c.try_slice.new.text.reader.agent.seat.me.0 c.slice.new.self.reader.agent.seat.me.0
    c.try_slice.new.self c.slice.ensures.own c.try_slice.ensures.reserve

pub returns-in-None-clause-cut : goal.returns-in-None-clause-cut
returns-in-None-clause-cut g c us h = let v : View = c.args.text.now.reader.agent.seat.me.0 in
    let u : View = c.try_slice.new.text.reader.agent.seat.me.0 in let w : View = c.slice.new.self.reader.agent.seat.me.0 in
    let r = c.args.self.now in let p = c.args.s in let from = c.args.from in let to = c.args.to in let answer = c.slice.result in let m = c.try_slice.ensures.tried us h in
    let no_short : IsShortCut r from to us → ⊥ = (λ e. let t = m.short e in let o : None ≡ Some t.0 = sym c.in-None.is ∙ t.1 in absurd (cc)) in
    let no_long : IsLongCut r p from to us → ⊥ = (λ e. let t = m.long e in let o : None ≡ Some (Ok t.0) = sym c.in-None.is ∙ t.1 in absurd (cc)) in
    let left = m.left no_short no_long in let z : HeapSize = size_of (g.H.HeapRef.reached c.args.text.now.reader.heap) in
    let same : size_of (g.H.HeapRef.reached c.try_slice.new.text.reader.heap) ≡ z = ap (λ y. size_of (g.H.HeapRef.reached y)) c.try_slice.ensures.kept.heap in record {
      short = λ e. absurd (no_short e);
      long = λ e. absurd (no_long e);
      claimed = λ _ _. (
        left.1,
        own_trans v u w (own_reads v u left.2) c.slice.ensures.own,
        cut_after v u w z left.2 p from to us answer (subst (λ (y : HeapSize). IsCut u w y p from to us answer) same (c.slice.ensures.cut us (left.2.known.units p.id us h))),
      );
    }

pub returns-in-Some-clause-units : goal.returns-in-Some-clause-units
returns-in-Some-clause-units g c = let v : View = c.args.text.now.reader.agent.seat.me.0 in let w : View = c.try_slice.new.text.reader.agent.seat.me.0 in
    cut_shows v w c.args.s c.args.from c.args.to c.in-Some.made (λ us h. (cut_made v w c.args.self.now c.try_slice.new.self (size_of (g.H.HeapRef.reached c.args.text.now.reader.heap))
    c.args.s c.args.from c.args.to us c.in-Some.made (subst (TriesCut v w c.args.self.now c.try_slice.new.self (size_of (g.H.HeapRef.reached c.args.text.now.reader.heap)) c.args.s c.args.from c.args.to us) c.in-Some.is (c.try_slice.ensures.tried us h))).0)

pub returns-in-Some-clause-settled : goal.returns-in-Some-clause-settled
returns-in-Some-clause-settled g c = let v : View = c.args.text.now.reader.agent.seat.me.0 in let w : View = c.try_slice.new.text.reader.agent.seat.me.0 in let t = c.requires.within in
    let us : List ℕ = t.0 in let h = t.1 in (cut_made v w c.args.self.now c.try_slice.new.self (size_of (g.H.HeapRef.reached c.args.text.now.reader.heap))
    c.args.s c.args.from c.args.to us c.in-Some.made (subst (TriesCut v w c.args.self.now c.try_slice.new.self (size_of (g.H.HeapRef.reached c.args.text.now.reader.heap)) c.args.s c.args.from c.args.to us) c.in-Some.is (c.try_slice.ensures.tried us h))).1

pub returns-in-None-clause-units : goal.returns-in-None-clause-units
returns-in-None-clause-units g c = cut_told c.args.text.now.reader.agent.seat.me.0 c.try_slice.new.text.reader.agent.seat.me.0 c.slice.new.self.reader.agent.seat.me.0
    c.try_slice.ensures.continues.known c.args.s c.args.from c.args.to c.slice.result c.slice.ensures.units
