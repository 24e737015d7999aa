use Rattle.std.proofs.Common.{◌≡◌, ◌≤◌, ◌-◌, ◌∙◌, ℕ, List, length, ap, subst, sym, arith, Some}
use Rattle.heap_rule.specs.declared.size.HeapSize.{HeapSize}
use Rattle.heap_rule.specs.declared.view.View.{View}
use Rattle.heap_rule.specs.Births.{part}
use Rattle.heap_rule.proofs.MapLemmas.{key_of}
use Rattle.heap_table.specs.Agents.{size_of}
use Rattle.heap_text.specs.Joins.{IsCopied, IsPartCut}
use Rattle.heap_text.proofs.Owned.{own_reads, own_trans}
use Rattle.heap_text.proofs.Answered.{cut_all, cut_settled}
use Rattle.heap_text.proofs.Cutting.{part_after}
use Rattle.heap_read.proofs.Going.{continues_reads, continues_trans}
use Rattle.heap_text.proofs.Linking.{copied_after}
use Rattle.heap_read.proofs.Loaded.{known_trans}
use Rattle.heap_text.proofs.text.Text.slice.Goals.{else-from-eq0-via-then-from-eq0+else-to-n, else-from-eq0-via-else-from-eq0}
use Rattle.heap_text.proofs.text.Text.slice.Goals as goal

pub len-n-requires : goal.len-n-requires
len-n-requires g c = let t = c.requires.within in record { known = key_of c.args.self.now.reader.agent.seat.me.0.units c.args.s.id t.0 t.1 }

pub cut-requires-clause-settled : goal.cut-requires-clause-settled
cut-requires-clause-settled g c = c.len-n.ensures.reads.view.known.settled c.args.s.id c.requires.settled

pub cut-requires-clause-within : goal.cut-requires-clause-within
cut-requires-clause-within g c = let t = c.requires.within in let low = t.2 in let high = t.3 in (t.0, c.len-n.ensures.reads.view.known.units c.args.s.id t.0 t.1, omega arith)

pub returns-clause-cut : goal.returns-clause-cut
returns-clause-cut g c us h = let v : View = c.args.self.now.reader.agent.seat.me.0 in let w : View = c.len-n.new.self.agent.seat.me.0 in
    let x : View = c.cut.new.reader.agent.seat.me.0 in let n : ℕ = c.args.to - c.args.from in
    let known = c.len-n.ensures.reads.view.known.units c.args.s.id us h in let count = c.len-n.ensures.length us h in
    let same : size_of (g.H.HeapRef.reached c.len-n.new.self.heap) ≡ size_of (g.H.HeapRef.reached c.args.self.now.reader.heap) = ap
    (λ y. size_of (g.H.HeapRef.reached y)) c.len-n.ensures.reads.heap in record {
      whole = λ z l. elim c.else-from-eq0.branch [
        | else-from-eq0-via-then-from-eq0+else-to-n q ↦ absurd (q.if-to-n.false (l ∙ sym count))
        | else-from-eq0-via-else-from-eq0 q ↦ absurd (q.if-from-eq0.false z)
      ];
      short = λ _ l. copied_after v w x (size_of (g.H.HeapRef.reached c.args.self.now.reader.heap)) c.len-n.ensures.reads.view
          (part c.args.from n us) c.cut.result (subst (λ (y : HeapSize). IsCopied w x y (part c.args.from n us) c.cut.result) same
          (c.cut.ensures.copied l us known));
      long = λ _ l. part_after v w x (size_of (g.H.HeapRef.reached c.args.self.now.reader.heap)) c.len-n.ensures.reads.view c.args.s
          c.args.from (part c.args.from n us) c.cut.result (subst (λ (y : HeapSize). IsPartCut w x y c.args.s c.args.from
          (part c.args.from n us) c.cut.result) same (c.cut.ensures.linked l us known));
    }

pub returns-clause-units : goal.returns-clause-units
returns-clause-units g c = let v : View = c.args.self.now.reader.agent.seat.me.0 in let w : View = c.len-n.new.self.agent.seat.me.0 in
    let x : View = c.cut.new.reader.agent.seat.me.0 in let t = c.requires.within in
    let k = known_trans v w x c.len-n.ensures.reads.view.known c.cut.ensures.continues.view.known in
    cut_all v x (size_of (g.H.HeapRef.reached c.args.self.now.reader.heap)) c.args.s c.args.from c.args.to c.cut.result
    (λ us h. let both : Some t.0 ≡ Some us = sym t.1 ∙ h in
    let same : t.0 ≡ us = cc in (
      returns-clause-cut g c us h,
      k.units c.args.s.id us h,
      t.2,
      subst (λ (xs : List ℕ). c.args.to ≤ length xs)
          same t.3,
    )) (k.settled c.args.s.id c.requires.settled)

pub returns-clause-settled : goal.returns-clause-settled
returns-clause-settled g c = let v : View = c.args.self.now.reader.agent.seat.me.0 in let w : View = c.len-n.new.self.agent.seat.me.0 in
    let x : View = c.cut.new.reader.agent.seat.me.0 in let t = c.requires.within in
    let k = known_trans v w x c.len-n.ensures.reads.view.known c.cut.ensures.continues.view.known in
    cut_settled v x (size_of (g.H.HeapRef.reached c.args.self.now.reader.heap)) c.args.s c.args.from c.args.to t.0 c.cut.result
    (returns-clause-cut g c t.0 t.1) (k.units c.args.s.id t.0 t.1) t.2 t.3 (k.settled c.args.s.id c.requires.settled)

pub returns-clause-continues : goal.returns-clause-continues
returns-clause-continues g c = let v : View = c.args.self.now.reader.agent.seat.me.0 in let w : View = c.len-n.new.self.agent.seat.me.0 in
    continues_trans v w c.cut.new.reader.agent.seat.me.0 (continues_reads v w c.len-n.ensures.reads.view) c.cut.ensures.continues.view

pub returns-clause-own : goal.returns-clause-own
returns-clause-own g c = let v : View = c.args.self.now.reader.agent.seat.me.0 in let w : View = c.len-n.new.self.agent.seat.me.0 in
    own_trans v w c.cut.new.reader.agent.seat.me.0 (own_reads v w c.len-n.ensures.reads.view) c.cut.ensures.own
