use Rattle.std.proofs.Common.{◌≡◌, ◌∙◌, ◌⊎◌, ◌++◌, ℕ, List, ap, subst, sym, Some, None}
use Rattle.std.specs.Prelude.{Result, Ok, Err, IfOk}
use Rattle.heap_rule.specs.Maps.{Has}
use Rattle.heap_read.specs.declared.string.JsStr.{JsStr}
use Rattle.heap_text.specs.declared.faults.JoinFault.{JoinFault}
use Rattle.heap_text.specs.declared.faults.JoinFault.TheVariants.{Full}
use Rattle.heap_text.specs.declared.faults.TextFull.{TextFull}
use Rattle.heap_rule.specs.declared.size.HeapSize.{HeapSize}
use Rattle.heap_rule.specs.declared.view.View.{View}
use Rattle.heap_table.specs.Agents.{size_of}
use Rattle.heap_text.specs.Joins.{IsJoined}
use Rattle.heap_text.proofs.Owned.{own_reads, own_trans}
use Rattle.heap_reserve.specs.Making.{IsFlatAnswer, IsFlatTaken, IsLongJoin, IsShortJoin, words_holding}
use Rattle.heap_reserve.specs.Reserves.{IsTakingRefused}
use Rattle.heap_reserve.specs.Trying.{TriesJoin, join_answer}
use Rattle.heap_reserve.proofs.After.{joined_after}
use Rattle.heap_reserve.proofs.Kept.{reserve_kept}
use Rattle.heap_reserve.proofs.Tried.{flat_joined, join_made, join_shows, join_told}
use Rattle.heap_reserve.proofs.reserve.Reserve.concat.Goals as goal

pub returns-in-Some-clause-joined : goal.returns-in-Some-clause-joined
returns-in-Some-clause-joined g c us vs h k = let v : View = c.args.text.now.reader.agent.seat.me.0 in let w : View = c.try_concat.new.text.reader.agent.seat.me.0 in
    let r = c.args.self.now in let s = c.try_concat.new.self in let z : HeapSize = size_of (g.H.HeapRef.reached c.args.text.now.reader.heap) in
    let m = c.try_concat.ensures.tried us vs h k in let made = c.in-Some.made in let is = c.as_joined.ensures in record {
      short = λ e. let t = m.short e in let o : Some made ≡ Some t.0 = sym c.in-Some.is ∙ t.1 in let same : t.0 ≡ made = cc in
          subst (λ (a : Result JsStr JoinFault). ((q : JsStr) × (a ≡ Ok q) × IsFlatTaken v w r s q (us ++ vs)) ⊎ ((f : TextFull) × (a ≡ Err (Full f)) × IsTakingRefused v w z r s (words_holding (us ++ vs)) f)) (sym is)
          (flat_joined v w r s z (us ++ vs) made (subst (IsFlatAnswer v w r s z (us ++ vs)) same t.2));
      long = λ e. let t = m.long e in let o : Some made ≡ Some (Ok t.0) = sym c.in-Some.is ∙ t.1 in let same : made ≡ Ok t.0 = cc in (t.0, is ∙ ap join_answer same, t.2);
      claimed = λ no_short no_long. let t = m.left no_short no_long in let o : Some made ≡ None = sym c.in-Some.is ∙ t.0 in absurd (cc);
    }

pub returns-in-None-clause-reserve : goal.returns-in-None-clause-reserve
returns-in-None-clause-reserve g c = reserve_kept c.try_concat.new.text.reader.agent.seat.me.0 c.concat.new.self.reader.agent.seat.me.0
    c.try_concat.new.self c.concat.ensures.own c.try_concat.ensures.reserve

pub returns-in-None-clause-joined : goal.returns-in-None-clause-joined
returns-in-None-clause-joined g c us vs h k = let v : View = c.args.text.now.reader.agent.seat.me.0 in
    let u : View = c.try_concat.new.text.reader.agent.seat.me.0 in let w : View = c.concat.new.self.reader.agent.seat.me.0 in
    let r = c.args.self.now in let a = c.args.a in let b = c.args.b in let most = c.args.text.now.limit in let answer = c.concat.result in let m = c.try_concat.ensures.tried us vs h k in
    let no_short : IsShortJoin r most us vs → ⊥ = (λ e. let t = m.short e in let o : None ≡ Some t.0 = sym c.in-None.is ∙ t.1 in absurd (cc)) in
    let no_long : IsLongJoin r most a b us vs → ⊥ = (λ e. let t = m.long e in let o : None ≡ Some (Ok t.0) = sym c.in-None.is ∙ t.1 in absurd (cc)) in
    let left = m.left no_short no_long in let z : HeapSize = size_of (g.H.HeapRef.reached c.args.text.now.reader.heap) in
    let same : size_of (g.H.HeapRef.reached c.try_concat.new.text.reader.heap) ≡ z = ap (λ y. size_of (g.H.HeapRef.reached y)) c.try_concat.ensures.kept.heap in
    let told : IsJoined u w z c.try_concat.new.text.limit a b us vs answer = subst
    (λ (y : HeapSize). IsJoined u w y c.try_concat.new.text.limit a b us vs answer) same
    (c.concat.ensures.joined us vs (left.2.known.units a.id us h) (left.2.known.units b.id vs k)) in record {
      short = λ e. absurd (no_short e);
      long = λ e. absurd (no_long e);
      claimed = λ _ _. (
        left.1,
        own_trans v u w (own_reads v u left.2) c.concat.ensures.own,
        joined_after v u w z left.2 most a b us vs answer (subst (λ (n : ℕ). IsJoined u w z n a b us vs answer) c.try_concat.ensures.kept.limit told),
      );
    }

pub returns-in-Some-clause-units : goal.returns-in-Some-clause-units
returns-in-Some-clause-units g c = let v : View = c.args.text.now.reader.agent.seat.me.0 in let w : View = c.try_concat.new.text.reader.agent.seat.me.0 in
    subst (λ (a : Result JsStr JoinFault). IfOk a (λ t. (us vs : List ℕ) → Has v.units c.args.a.id us → Has v.units c.args.b.id vs → Has w.units t.id (us ++ vs))) (sym c.as_joined.ensures)
    (join_shows v w c.args.a c.args.b c.in-Some.made
    (λ us vs h k. join_made v w c.args.self.now c.try_concat.new.self (size_of (g.H.HeapRef.reached c.args.text.now.reader.heap)) c.args.text.now.limit c.args.a c.args.b us vs c.in-Some.made
    (subst (TriesJoin v w c.args.self.now c.try_concat.new.self (size_of (g.H.HeapRef.reached c.args.text.now.reader.heap)) c.args.text.now.limit c.args.a c.args.b us vs) c.in-Some.is (c.try_concat.ensures.tried us vs h k))))

pub returns-in-None-clause-units : goal.returns-in-None-clause-units
returns-in-None-clause-units g c = join_told c.args.text.now.reader.agent.seat.me.0 c.try_concat.new.text.reader.agent.seat.me.0 c.concat.new.self.reader.agent.seat.me.0
    c.try_concat.ensures.continues.known c.args.a c.args.b c.concat.result c.concat.ensures.units
