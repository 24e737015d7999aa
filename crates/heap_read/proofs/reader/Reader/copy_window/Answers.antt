use Rattle.std.proofs.Common.{◌≡◌, ◌+◌, ◌/◌, ◌^◌, ◌<◌, ◌≤◌, ◌∙◌, ℕ, Bool, List, get_or, refl, subst, sym, arith}
use Rattle.std.specs.FinMap.{FinMap}
use Rattle.std.specs.Ordering.{nat_cmp}
use Rattle.js_units.specs.Lanes.{lane_base, lane_count, lane_of}
use Rattle.heap_rule.specs.declared.view.View.{View}
use Rattle.heap_rule.specs.Maps.{Has, HasKey}
use Rattle.heap_read.specs.Filling.{IsFilled, own_word}
use Rattle.heap_read.specs.Shifted.{HoldsLanes}
use Rattle.heap_read.specs.Windows.{IsWindow}
use Rattle.heap_read.proofs.Placing.{filled_none, filled_on, filled_same}
use Rattle.heap_read.proofs.Showing.{forms_held, more_words, window_kept}
use Rattle.heap_read.proofs.Storing.{below_reads, writes_reads, writes_refl, writes_trans}
use Rattle.heap_read.proofs.WindowLemmas.{forms_trans}
use Rattle.heap_read.proofs.reader.Reader.copy_window.Goals as goal

pub loop-done-init : goal.loop-done-init
loop-done-init g c = let v : View = c.args.self.now.agent.seat.me.0 in record {
  heap = refl;
  writes = writes_refl v;
  below = λ q y l h. h;
  above = λ q y l h. h;
  forms = (refl, refl);
  window = λ us h. h;
  filled = λ us h. filled_none c.args.to.wide c.args.to.start (own_word v.own_words) c.args.at (λ k. get_or us k 0);
  within = omega arith;
}

pub part_of-part-requires-clause-window : goal.part_of-part-requires-clause-window
part_of-part-requires-clause-window g c = let t = c.requires.window in (t.0, c.loop-done.invariant.window t.0 t.1)

pub part_of-part-requires-clause-room : goal.part_of-part-requires-clause-room
part_of-part-requires-clause-room g c = let count = c.min-count.result in let most = c.min-count.ensures in let rest = c.left_in_word.ensures.rest in
    subst (λ (b : Bool). count ≤ lane_count b) (sym c.requires.width) (omega (arith, most, rest))

-- the word of the next lane
pub put_lanes-requires-clause-own : goal.put_lanes-requires-clause-own
put_lanes-requires-clause-own g c = let o : ℕ = c.args.at + c.loop-done.done in let place : ℕ = c.args.to.start + o / lane_count c.args.to.wide in
    subst (λ (m : FinMap nat_cmp ℕ). HasKey m place) (sym c.part_of-part.ensures.reads.view.own_words)
    (c.loop-done.invariant.writes.own_words place (c.requires.own o (omega arith) (omega (arith, c.loop-done-test.true))))

pub put_lanes-requires-clause-small : goal.put_lanes-requires-clause-small
put_lanes-requires-clause-small g c = let t = c.requires.window in let count = c.min-count.result in
    subst (λ (b : Bool). c.part_of-part.result < lane_base b ^ count) c.requires.width (c.part_of-part.ensures.word t.0 (c.loop-done.invariant.window t.0 t.1)).small

pub loop-done-preserved : goal.loop-done-preserved
loop-done-preserved g c = let v : View = c.args.self.now.agent.seat.me.0 in let u : View = c.loop-done.self.agent.seat.me.0 in
    let p : View = c.part_of-part.new.self.agent.seat.me.0 in let w : View = c.put_lanes.new.self.agent.seat.me.0 in
    let i = c.loop-done.invariant in let e = c.part_of-part.ensures in let r = c.put_lanes.ensures in let wide = c.args.to.wide in
    let start = c.args.to.start in let at : ℕ = c.args.at in let done = c.loop-done.done in let count = c.min-count.result in let o : ℕ = at + done in
    let part = c.part_of-part.result in let most = c.min-count.ensures in let win = c.args.w in
    let next : (us : List ℕ) → IsWindow v win us → IsFilled wide start (own_word u.own_words) (own_word w.own_words) o count (λ k. get_or us (done + k) 0) = λ us h.
    let lanes : HoldsLanes wide part count (λ k. get_or us (done + k) 0) = subst (λ (b : Bool). HoldsLanes b part count (λ k. get_or us (done + k) 0)) c.requires.width (e.word us (i.window us h)) in
    filled_same wide start (own_word u.own_words) (own_word w.own_words) o count (lane_of wide part) (λ k. get_or us (done + k) 0)
    (subst (λ (m : FinMap nat_cmp ℕ). IsFilled wide start (own_word m) (own_word w.own_words) o count (lane_of wide part)) e.reads.view.own_words r.filled) lanes.each in
    let inside = more_words wide (o + count) (at + win.len) (omega (arith, most)) in record {
      heap = r.writes.heap ∙ (e.reads.heap ∙ i.heap);
      writes = writes_trans v u w i.writes (writes_trans u p w (writes_reads u p e.reads.view) r.writes.view);
      below = λ q y l h. r.below q y l (below_reads start u p e.reads.view q y l (i.below q y l h));
      above = λ q y l h. r.above q y (omega (arith, l, inside)) (subst (λ (m : FinMap nat_cmp ℕ). Has m q y) (sym e.reads.view.own_words) (i.above q y l h));
      forms = forms_trans v p w (forms_trans v u p i.forms e.forms) r.forms;
      window = λ us h. window_kept p w (forms_held p w r.forms.0) win us r.writes.view.known (window_kept u p (forms_held u p e.forms.0) win us e.reads.view.known (i.window us h));
      filled = λ us h. filled_on wide start (own_word v.own_words) (own_word u.own_words) (own_word w.own_words) at done count (λ k. get_or us k 0) (i.filled us h) (next us h);
      within = omega arith;
    }

pub returns-clause-filled : goal.returns-clause-filled
returns-clause-filled g c us h = let v : View = c.args.self.now.agent.seat.me.0 in let u : View = c.loop-done.self.agent.seat.me.0 in let i = c.loop-done.invariant in
    let end : c.loop-done.done ≡ c.args.w.len = omega (arith, i.within, c.loop-done-test.false) in
    subst (λ (n : ℕ). IsFilled c.args.to.wide c.args.to.start (own_word v.own_words) (own_word u.own_words) c.args.at n (λ k. get_or us k 0)) end (i.filled us h)
