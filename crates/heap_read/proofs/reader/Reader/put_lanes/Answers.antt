use Rattle.std.proofs.Common.{◌+◌, ◌/◌, ◌%◌, ◌∙◌, ℕ, subst, sym, arith}
use Rattle.std.specs.FinMap.{FinMap, insert}
use Rattle.std.specs.Ordering.{nat_cmp}
use Rattle.js_units.specs.Lanes.{lane_count, lane_of}
use Rattle.heap_rule.specs.declared.view.View.{View}
use Rattle.heap_rule.specs.Maps.{Has}
use Rattle.heap_rule.proofs.MapLemmas.{insert_other}
use Rattle.heap_rule.proofs.Possible.{possible_lawful}
use Rattle.heap_rule.proofs.Steps.{possible_within}
use Rattle.heap_read.specs.Filling.{IsPlaced, own_word}
use Rattle.heap_read.specs.Reads.{WritesOwnWords}
use Rattle.heap_read.proofs.Placing.{IsStored, placed_filled, unit_inside}
use Rattle.heap_read.proofs.Storing.{word_put, writes_reads, writes_stored, writes_trans}
use Rattle.heap_read.proofs.reader.Reader.put_lanes.Goals as goal

pub overflow_add-place : goal.overflow_add-place
overflow_add-place g c = let v : View = c.args.self.now.agent.seat.me.0 in let p = c.args.self.now.belongs.5 in let is = c.word_and_lane-number.ensures.0 in
    let a = (possible_within v p).words (c.args.to.start + c.args.at / lane_count c.args.to.wide) c.requires.own in let b = (possible_lawful v p).3 in omega arith

pub returns-clause-writes : goal.returns-clause-writes
returns-clause-writes g c = let v : View = c.args.self.now.agent.seat.me.0 in let p : View = c.patched-word.new.self.agent.seat.me.0 in let w : View = c.store_word.new.self.seat.me.0 in
    let place : ℕ = c.args.to.start + c.word_and_lane-number.result.0 in record {
      heap = cc;
      view = writes_trans v p w (writes_reads v p c.patched-word.ensures.reads.view)
          (subst (WritesOwnWords p) (sym c.store_word.ensures.view) (writes_stored p place c.patched-word.result));
    }

pub returns-clause-below : goal.returns-clause-below
returns-clause-below g c q y l h = let p : View = c.patched-word.new.self.agent.seat.me.0 in let place : ℕ = c.args.to.start + c.word_and_lane-number.result.0 in
    let old : Has p.own_words q y = subst (λ (m : FinMap nat_cmp ℕ). Has m q y) (sym c.patched-word.ensures.reads.view.own_words) h in
    subst (λ (a : View). Has a.own_words q y) (sym c.store_word.ensures.view) (insert_other p.own_words place q c.patched-word.result (λ d. omega arith) ∙ old)

pub returns-clause-above : goal.returns-clause-above
returns-clause-above g c q y l h = let p : View = c.patched-word.new.self.agent.seat.me.0 in let place : ℕ = c.args.to.start + c.word_and_lane-number.result.0 in
    let is = c.word_and_lane-number.ensures.0 in let inside = unit_inside c.args.to.wide (c.args.at + c.args.count) c.args.at (omega (arith, c.requires.some)) in
    let old : Has p.own_words q y = subst (λ (m : FinMap nat_cmp ℕ). Has m q y) (sym c.patched-word.ensures.reads.view.own_words) h in
    subst (λ (a : View). Has a.own_words q y) (sym c.store_word.ensures.view)
    (insert_other p.own_words place q c.patched-word.result (λ d. omega (arith, l, d, inside, is)) ∙ old)

pub returns-clause-filled : goal.returns-clause-filled
returns-clause-filled g c = let v : View = c.args.self.now.agent.seat.me.0 in let p : View = c.patched-word.new.self.agent.seat.me.0 in let w : View = c.store_word.new.self.seat.me.0 in
    let wide = c.args.to.wide in let start : ℕ = c.args.to.start in let at : ℕ = c.args.at in let count = c.args.count in let is = c.word_and_lane-number.ensures in
    let number = c.word_and_lane-number.result.0 in let low = c.word_and_lane-number.result.1 in let x = c.patched-word.result in let unit = lane_of wide c.args.part in
    let e = c.patched-word.ensures in
    let stored : IsStored (own_word v.own_words) (own_word w.own_words) (start + at / lane_count wide) x =
    subst (λ (n : ℕ). IsStored (own_word v.own_words) (own_word w.own_words) (start + n) x) is.0
    (subst (λ (y : View). IsStored (own_word v.own_words) (own_word y.own_words) (start + number) x) (sym c.store_word.ensures.view)
    (subst (λ (m : FinMap nat_cmp ℕ). IsStored (own_word m) (own_word (insert p.own_words (start + number) x)) (start + number) x) e.reads.view.own_words (word_put p.own_words (start + number) x))) in
    let here : IsPlaced wide (own_word v.own_words (start + at / lane_count wide)) x (at % lane_count wide) count unit =
    subst (λ (n : ℕ). IsPlaced wide (own_word v.own_words (start + n)) x (at % lane_count wide) count unit) is.0
    (subst (λ (n : ℕ). IsPlaced wide (own_word v.own_words (start + number)) x n count unit) is.1 e.placed) in
    placed_filled wide start (own_word v.own_words) (own_word w.own_words) at count x unit c.requires.room stored here
