use Rattle.std.proofs.Common.{ℕ, ◌+◌, ◌/◌, subst, sym, arith}
use Rattle.js_units.specs.Lanes.{lane_count}
use Rattle.heap_rule.specs.declared.view.View.{View}
use Rattle.heap_rule.specs.Views.{shown_word}
use Rattle.heap_rule.proofs.Possible.{possible_lawful}
use Rattle.heap_table.proofs.Keeps.{word_within}
use Rattle.heap_read.specs.Shifted.{HasWord}
use Rattle.heap_read.proofs.Loaded.{has_loaded, reads_word}
use Rattle.heap_read.proofs.Runs.{run_one}
use Rattle.heap_read.proofs.reader.Reader.lanes_here.Goals as goal

pub overflow_add-of : goal.overflow_add-of
overflow_add-of g c = let v : View = c.args.self.now.agent.seat.me.0 in let p = c.args.self.now.belongs.5 in let is = c.word_and_lane-number.ensures.0 in
    let a = word_within v p (c.args.of.start + c.args.o / lane_count c.args.of.wide) c.requires.may in let b = (possible_lawful v p).3 in omega arith

pub returns-clause-reads : goal.returns-clause-reads
returns-clause-reads g c = let e = c.load_word-word.ensures in record {
  heap = cc;
  view = reads_word c.args.self.now.agent.seat.me.0 c.load_word-word.new.self.seat.me.0 _ c.load_word-word.result e.known e.view;
}

pub returns-clause-has : goal.returns-clause-has
returns-clause-has g c = let v : View = c.args.self.now.agent.seat.me.0 in let start = c.args.of.start in let number = c.word_and_lane-number.result.0 in
    subst (λ (n : ℕ). HasWord c.load_word-word.new.self.seat.me.0 (start + n)) c.word_and_lane-number.ensures.0
    (subst (λ (x : View). HasWord x (start + number)) (sym c.load_word-word.ensures.view) (has_loaded v (start + number) c.load_word-word.result))

pub returns-clause-lanes : goal.returns-clause-lanes
returns-clause-lanes g c = let of = c.args.of in let is = c.word_and_lane-number.ensures in
    run_one (shown_word c.load_word-word.new.self.seat.me.0) of.wide of.start c.args.o c.args.count c.word_and_lane-number.result.0 c.word_and_lane-number.result.1
    c.load_word-word.result c.lanes_at.result is.0 is.1 c.requires.room c.load_word-word.ensures.shown c.lanes_at.ensures
