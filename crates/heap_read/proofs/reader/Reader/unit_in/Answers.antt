use Rattle.std.proofs.Common.{◌+◌, ◌/◌, ◌^◌, ◌<◌, ℕ, true, false, inr, subst, sym, ◌∙◌, arith, ◌⊎◌}
use Rattle.js_units.specs.Lanes.{lane_count}
use Rattle.heap_rule.specs.declared.view.View.{View}
use Rattle.heap_rule.specs.Maps.{HasKey}
use Rattle.heap_rule.specs.Views.{IsFrozen, shown_word}
use Rattle.heap_read.proofs.Loaded.{has_loaded, reads_word}
use Rattle.heap_read.proofs.Showing.{eight_lanes, forms_held, four_lanes, lane_here, place_frozen, place_small, window_kept, window_unit, word_small}
use Rattle.heap_read.proofs.Storing.{forms_word}
use Rattle.heap_read.proofs.reader.Reader.unit_in.Goals as goal

pub overflow_add-place : goal.overflow_add-place
overflow_add-place g c = let a = place_small c.args.self.now.agent.seat.me.0 c.args.w c.args.i c.args.self.now.belongs.5 c.requires.frozen c.requires.within in omega arith

pub load_word-word-requires-clause-may : goal.load_word-word-requires-clause-may
load_word-word-requires-clause-may g c = let w = c.args.w in let o : ℕ = w.offset + c.args.i in
    inr (subst (λ (n : ℕ). IsFrozen c.args.self.now.agent.seat.me.0 (w.start + o / n)) (sym (four_lanes w.wide c.if-w.true))
    (place_frozen c.args.self.now.agent.seat.me.0 w c.args.i c.requires.frozen c.requires.within))

pub overflow_add-w : goal.overflow_add-w
overflow_add-w g c = let w = c.args.w in let o : ℕ = w.offset + c.args.i in let m = four_lanes w.wide c.if-w.true in
    let a : w.start + o / 4 < 2 ^ 29 = subst (λ (n : ℕ). w.start + o / n < 2 ^ 29) (sym m)
    (word_small c.args.self.now.agent.seat.me.0 w c.args.i c.args.self.now.belongs.5 c.requires.frozen c.requires.within) in omega arith

pub returns-then-w-clause-lane : goal.returns-then-w-clause-lane
returns-then-w-clause-lane g c = let w = c.args.w in let o : ℕ = w.offset + c.args.i in
    lane_here (shown_word c.load_word-word.new.self.seat.me.0) w.wide true w.start o 4 c.load_word-word.result c.lane.result c.if-w.true
    (four_lanes w.wide c.if-w.true) c.load_word-word.ensures.shown c.lane.ensures

pub returns-then-w-clause-unit : goal.returns-then-w-clause-unit
returns-then-w-clause-unit g c us h = let w = c.args.w in let o : ℕ = w.offset + c.args.i in
    let u : View = c.args.self.now.agent.seat.me.0 in let v : View = c.load_word-word.new.self.seat.me.0 in let e = c.load_word-word.ensures in
    let has : HasKey v.own_words (w.start + o / lane_count w.wide) ⊎ HasKey v.frozen (w.start + o / lane_count w.wide) = subst
    (λ (n : ℕ). HasKey v.own_words (w.start + o / n) ⊎ HasKey v.frozen (w.start + o / n)) (four_lanes w.wide c.if-w.true)
    (subst (λ (x : View). HasKey x.own_words (w.start + o / 4) ⊎ HasKey x.frozen (w.start + o / 4)) (sym e.view) (has_loaded u (w.start + o / 4) c.load_word-word.result)) in
    returns-then-w-clause-lane g c ∙ window_unit v w us c.args.i e.belongs.5 (window_kept u v (forms_held u v e.forms) w us e.known h) c.requires.within has

pub overflow_add-w-else-w : goal.overflow_add-w-else-w
overflow_add-w-else-w g c = let w = c.args.w in let o : ℕ = w.offset + c.args.i in let m = eight_lanes w.wide c.if-w.false in
    let a : w.start + o / 8 < 2 ^ 29 = subst (λ (n : ℕ). w.start + o / n < 2 ^ 29) (sym m)
    (word_small c.args.self.now.agent.seat.me.0 w c.args.i c.args.self.now.belongs.5 c.requires.frozen c.requires.within) in omega arith

pub returns-else-w-clause-lane : goal.returns-else-w-clause-lane
returns-else-w-clause-lane g c = let w = c.args.w in let o : ℕ = w.offset + c.args.i in
    lane_here (shown_word c.load_word-word-else-w.new.self.seat.me.0) w.wide false w.start o 8 c.load_word-word-else-w.result
    c.lane-else-w.result c.if-w.false (eight_lanes w.wide c.if-w.false) c.load_word-word-else-w.ensures.shown c.lane-else-w.ensures

pub returns-else-w-clause-unit : goal.returns-else-w-clause-unit
returns-else-w-clause-unit g c us h = let w = c.args.w in let o : ℕ = w.offset + c.args.i in
    let u : View = c.args.self.now.agent.seat.me.0 in let v : View = c.load_word-word-else-w.new.self.seat.me.0 in let e = c.load_word-word-else-w.ensures in
    let has : HasKey v.own_words (w.start + o / lane_count w.wide) ⊎ HasKey v.frozen (w.start + o / lane_count w.wide) = subst
    (λ (n : ℕ). HasKey v.own_words (w.start + o / n) ⊎ HasKey v.frozen (w.start + o / n)) (eight_lanes w.wide c.if-w.false)
    (subst (λ (x : View). HasKey x.own_words (w.start + o / 8) ⊎ HasKey x.frozen (w.start + o / 8)) (sym e.view) (has_loaded u (w.start + o / 8) c.load_word-word-else-w.result)) in
    returns-else-w-clause-lane g c ∙ window_unit v w us c.args.i e.belongs.5 (window_kept u v (forms_held u v e.forms) w us e.known h) c.requires.within has

pub returns-then-w-clause-reads : goal.returns-then-w-clause-reads
returns-then-w-clause-reads g c =
    let e = c.load_word-word.ensures in record {
      heap = cc;
      view = reads_word c.args.self.now.agent.seat.me.0
          c.load_word-word.new.self.seat.me.0 _ c.load_word-word.result e.known e.view;
    }

pub returns-else-w-clause-reads : goal.returns-else-w-clause-reads
returns-else-w-clause-reads g c =
    let e = c.load_word-word-else-w.ensures in record {
      heap = cc;
      view = reads_word c.args.self.now.agent.seat.me.0
          c.load_word-word-else-w.new.self.seat.me.0 _ c.load_word-word-else-w.result e.known e.view;
    }

pub returns-then-w-clause-forms : goal.returns-then-w-clause-forms
returns-then-w-clause-forms g c = forms_word c.args.self.now.agent.seat.me.0 c.load_word-word.new.self.seat.me.0 _ c.load_word-word.result c.load_word-word.ensures.view

pub returns-else-w-clause-forms : goal.returns-else-w-clause-forms
returns-else-w-clause-forms g c = forms_word c.args.self.now.agent.seat.me.0 c.load_word-word-else-w.new.self.seat.me.0 _ c.load_word-word-else-w.result c.load_word-word-else-w.ensures.view
