use Rattle.std.proofs.Common.{ℕ, ◌+◌, ◌⊎◌, subst, sym, arith}
use Rattle.heap_rule.specs.declared.view.View.{View}
use Rattle.heap_rule.specs.Loads.{loaded_word}
use Rattle.heap_rule.specs.Maps.{HasKey}
use Rattle.heap_rule.specs.Views.{IsFrozen}
use Rattle.heap_read.proofs.Freezing.{held_lanes, word_there}
use Rattle.heap_read.proofs.Holding.{held_window, lane_small}
use Rattle.heap_read.proofs.Learned.{learned_then}
use Rattle.heap_read.proofs.Loaded.{has_loaded, reads_word}
use Rattle.heap_read.proofs.Showing.{forms_held, place_frozen, place_small, window_kept, word_small}
use Rattle.heap_read.proofs.reader.Reader.hold_in.Goals as goal

pub overflow_add-place : goal.overflow_add-place
overflow_add-place g c = let a = place_small c.args.self.now.agent.seat.me.0 c.args.w c.args.i c.args.self.now.belongs.5 c.requires.frozen c.requires.within in omega arith

pub overflow_add-w : goal.overflow_add-w
overflow_add-w g c = rw c.word_and_lane-at.ensures.0 (let a = word_small c.args.self.now.agent.seat.me.0 c.args.w c.args.i c.args.self.now.belongs.5 c.requires.frozen c.requires.within in omega arith)

pub returns-clause-holds : goal.returns-clause-holds
returns-clause-holds g c us h = let w = c.args.w in let v : View = c.args.self.now.agent.seat.me.0 in let x : View = c.load_word-word.new.self.seat.me.0 in let e = c.load_word-word.ensures in
    let at = c.word_and_lane-at.result.0 in let m = c.min-back.ensures in let n = c.min.ensures in let lanes = c.lanes-lanes.ensures in
    let has : HasKey x.own_words (w.start + at) ⊎ HasKey x.frozen (w.start + at) = subst
    (λ (y : View). HasKey y.own_words (w.start + at) ⊎ HasKey y.frozen (w.start + at)) (sym e.view) (has_loaded v (w.start + at) c.load_word-word.result) in
    held_window x w us c.args.i at c.word_and_lane-at.result.1 c.min-back.result c.min.result c.load_word-word.result e.belongs.5
    (window_kept v x (forms_held v x e.forms) w us e.known h) c.requires.within c.word_and_lane-at.ensures.0 c.word_and_lane-at.ensures.1
    (omega arith) (omega arith) (omega arith) (omega arith) has e.shown

pub returns-clause-reads : goal.returns-clause-reads
returns-clause-reads g c = let e = c.load_word-word.ensures in record {
  heap = cc;
  view = reads_word c.args.self.now.agent.seat.me.0 c.load_word-word.new.self.seat.me.0 _ c.load_word-word.result e.known e.view;
}

pub returns-clause-held : goal.returns-clause-held
returns-clause-held g c = let w = c.args.w in let v : View = c.args.self.now.agent.seat.me.0 in let x : View = c.load_word-word.new.self.seat.me.0 in let e = c.load_word-word.ensures in
    let at = c.word_and_lane-at.result.0 in let m = c.min-back.ensures in let n = c.min.ensures in let lanes = c.lanes-lanes.ensures in
    let frozen : IsFrozen v (w.start + at) = subst (λ (q : ℕ). IsFrozen v (w.start + q)) (sym c.word_and_lane-at.ensures.0) (place_frozen v w c.args.i c.requires.frozen c.requires.within) in
    held_lanes x w c.args.i at c.word_and_lane-at.result.1 c.min-back.result c.min.result c.load_word-word.result c.requires.within c.word_and_lane-at.ensures.0 c.word_and_lane-at.ensures.1
    (omega arith) (omega arith) (omega arith) (omega arith) (word_there v x c.args.self.now.belongs.5 (w.start + at) c.load_word-word.result frozen e.view)

pub returns-clause-learned : goal.returns-clause-learned
returns-clause-learned g c = let v : View = c.args.self.now.agent.seat.me.0 in learned_then
    (loaded_word v (c.args.w.start + c.word_and_lane-at.result.0) c.load_word-word.result) c.load_word-word.new.self.seat.me.0 c.load_word-word.ensures.view

pub returns-clause-all : goal.returns-clause-all
returns-clause-all g c = let m = c.min-back.ensures in let n = c.min.ensures in let lanes = c.lanes-lanes.ensures in
    let lane = c.word_and_lane-at.ensures.1 in let small = lane_small c.args.w.wide (c.args.w.offset + c.args.i) in record {
      front = λ more. omega arith;
      back = λ more. omega arith;
    }
