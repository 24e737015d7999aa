use Rattle.std.proofs.Common.{◌≡◌, ◌+◌, ◌/◌, ◌<◌, ◌∙◌, ℕ, inl, ap, refl, subst, sym, arith}
use Rattle.std.specs.FinMap.{FinMap}
use Rattle.std.specs.Ordering.{nat_cmp}
use Rattle.js_units.specs.Lanes.{lane_count, lane_of}
use Rattle.heap_rule.specs.declared.view.View.{View}
use Rattle.heap_rule.specs.Contents.{lane_in}
use Rattle.heap_rule.specs.Maps.{Has, HasKey}
use Rattle.heap_read.specs.Filling.{IsFilled, own_word}
use Rattle.heap_read.proofs.Placing.{filled_none, filled_on, filled_same}
use Rattle.heap_read.proofs.Runs.{own_lane}
use Rattle.heap_read.proofs.Showing.{more_words}
use Rattle.heap_read.proofs.Storing.{below_reads, writes_reads, writes_refl, writes_trans}
use Rattle.heap_read.proofs.WindowLemmas.{forms_trans}
use Rattle.heap_read.proofs.reader.Reader.repeat_by.Goals as goal

pub loop-done-init : goal.loop-done-init
loop-done-init g c = let v : View = c.args.self.now.agent.seat.me.0 in let to = c.args.to in record {
  heap = refl;
  writes = writes_refl v;
  below = λ q y l h. h;
  above = λ q y l h. h;
  forms = (refl, refl);
  filled = filled_none to.wide to.start (own_word v.own_words) (c.args.at + c.args.n) (λ k. lane_in (own_word v.own_words) to.wide to.start (c.args.at + k));
  within = omega arith;
}

-- the words of the lanes that are read, and that of the next one
pub lanes_in-part-requires-clause-may : goal.lanes_in-part-requires-clause-may
lanes_in-part-requires-clause-may g c q l m = let most = c.min-count.ensures in inl (c.loop-done.invariant.writes.own_words (c.args.to.start + q / lane_count c.args.to.wide)
    (c.requires.own q (omega (arith, l)) (omega (arith, m, most, c.loop-done-test.true))))

pub put_lanes-requires-clause-own : goal.put_lanes-requires-clause-own
put_lanes-requires-clause-own g c = let o : ℕ = c.args.at + c.args.n + c.loop-done.done in let place : ℕ = c.args.to.start + o / lane_count c.args.to.wide in
    subst (λ (m : FinMap nat_cmp ℕ). HasKey m place) (sym c.lanes_in-part.ensures.reads.view.own_words)
    (c.loop-done.invariant.writes.own_words place (c.requires.own o (omega arith) (omega (arith, c.loop-done-test.true))))

pub loop-done-preserved : goal.loop-done-preserved
loop-done-preserved g c = let v : View = c.args.self.now.agent.seat.me.0 in let u : View = c.loop-done.self.agent.seat.me.0 in
    let p : View = c.lanes_in-part.new.self.agent.seat.me.0 in let w : View = c.put_lanes.new.self.agent.seat.me.0 in
    let i = c.loop-done.invariant in let e = c.lanes_in-part.ensures in let r = c.put_lanes.ensures in let wide = c.args.to.wide in
    let start = c.args.to.start in let at : ℕ = c.args.at in let n : ℕ = c.args.n in let done = c.loop-done.done in let count = c.min-count.result in let o : ℕ = at + n + done in
    let part = c.lanes_in-part.result in let most = c.min-count.ensures in let first : ℕ → ℕ = own_word v.own_words in let test = c.loop-done-test.true in
    let lane : (k : ℕ) → k < count → lane_of wide part k ≡ lane_in first wide start (at + (done + k)) = λ k l.
    let key : HasKey p.own_words (start + (at + done + k) / lane_count wide) = subst (λ (m : FinMap nat_cmp ℕ). HasKey m (start + (at + done + k) / lane_count wide)) (sym e.reads.view.own_words)
    (i.writes.own_words (start + (at + done + k) / lane_count wide) (c.requires.own (at + done + k) (omega arith) (omega (arith, l, most)))) in
    let sum : at + done + k ≡ at + (done + k) = omega arith in
    e.lanes.each k l ∙ (own_lane p wide start (at + done + k) key
    ∙ (ap (λ (m : FinMap nat_cmp ℕ). lane_in (own_word m) wide start (at + done + k)) e.reads.view.own_words
    ∙ (i.filled.below (at + done + k) (omega (arith, l, most)) ∙ ap (lane_in first wide start) sum))) in
    let next : IsFilled wide start (own_word u.own_words) (own_word w.own_words) o count (λ k. lane_in first wide start (at + (done + k))) =
    filled_same wide start (own_word u.own_words) (own_word w.own_words) o count (lane_of wide part) (λ k. lane_in first wide start (at + (done + k)))
    (subst (λ (m : FinMap nat_cmp ℕ). IsFilled wide start (own_word m) (own_word w.own_words) o count (lane_of wide part)) e.reads.view.own_words r.filled) lane in
    let inside = more_words wide (o + count) (at + n + n) (omega (arith, most)) in record {
      heap = r.writes.heap ∙ (e.reads.heap ∙ i.heap);
      writes = writes_trans v u w i.writes (writes_trans u p w (writes_reads u p e.reads.view) r.writes.view);
      below = λ q y l h. r.below q y l (below_reads start u p e.reads.view q y l (i.below q y l h));
      above = λ q y l h. r.above q y (omega (arith, l, inside)) (subst (λ (m : FinMap nat_cmp ℕ). Has m q y) (sym e.reads.view.own_words) (i.above q y l h));
      forms = forms_trans v p w (forms_trans v u p i.forms e.forms) r.forms;
      filled = filled_on wide start first (own_word u.own_words) (own_word w.own_words) (at + n) done count (λ k. lane_in first wide start (at + k)) i.filled next;
      within = omega arith;
    }
