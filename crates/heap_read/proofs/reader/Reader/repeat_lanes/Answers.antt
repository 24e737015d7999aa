use Rattle.std.proofs.Common.{◌+◌, ◌/◌, Bool, subst, sym}
use Rattle.js_units.specs.Lanes.{lane_count, words_over}
use Rattle.heap_rule.specs.declared.view.View.{View}
use Rattle.heap_rule.specs.Contents.{lane_in}
use Rattle.heap_rule.specs.Maps.{HasKey}
use Rattle.heap_read.specs.Filling.{IsFilled, own_word}
use Rattle.heap_read.specs.Reads.{KeepsFrom}
use Rattle.heap_read.proofs.reader.Reader.repeat_lanes.Goals as goal

pub repeat_by-requires-clause-own : goal.repeat_by-requires-clause-own
repeat_by-requires-clause-own g c o l m = subst (λ (b : Bool). HasKey c.args.self.now.agent.seat.me.0.own_words (c.args.to.start + o / lane_count b)) c.if-to.true (c.requires.own o l m)

pub returns-then-to-clause-above : goal.returns-then-to-clause-above
returns-then-to-clause-above g c = subst (λ (b : Bool). KeepsFrom (c.args.to.start + words_over b (c.args.at + c.args.n + c.args.n)) c.args.self.now.agent.seat.me.0 c.repeat_by.new.self.agent.seat.me.0)
    (sym c.if-to.true) c.repeat_by.ensures.above

pub returns-then-to-clause-filled : goal.returns-then-to-clause-filled
returns-then-to-clause-filled g c = let v : View = c.args.self.now.agent.seat.me.0 in let start = c.args.to.start in
    subst (λ (b : Bool). IsFilled b start (own_word v.own_words) (own_word c.repeat_by.new.self.agent.seat.me.0.own_words) (c.args.at + c.args.n) c.args.n
    (λ k. lane_in (own_word v.own_words) b start (c.args.at + k))) (sym c.if-to.true) c.repeat_by.ensures.filled

pub repeat_by-requires-2-clause-own : goal.repeat_by-requires-2-clause-own
repeat_by-requires-2-clause-own g c o l m = subst (λ (b : Bool). HasKey c.args.self.now.agent.seat.me.0.own_words (c.args.to.start + o / lane_count b)) c.if-to.false (c.requires.own o l m)

pub returns-clause-above : goal.returns-clause-above
returns-clause-above g c = subst (λ (b : Bool). KeepsFrom (c.args.to.start + words_over b (c.args.at + c.args.n + c.args.n)) c.args.self.now.agent.seat.me.0 c.repeat_by-2.new.self.agent.seat.me.0)
    (sym c.if-to.false) c.repeat_by-2.ensures.above

pub returns-clause-filled : goal.returns-clause-filled
returns-clause-filled g c = let v : View = c.args.self.now.agent.seat.me.0 in let start = c.args.to.start in
    subst (λ (b : Bool). IsFilled b start (own_word v.own_words) (own_word c.repeat_by-2.new.self.agent.seat.me.0.own_words) (c.args.at + c.args.n) c.args.n
    (λ k. lane_in (own_word v.own_words) b start (c.args.at + k))) (sym c.if-to.false) c.repeat_by-2.ensures.filled
