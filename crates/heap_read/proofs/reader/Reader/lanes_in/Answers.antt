use Rattle.std.proofs.Common.{ℕ, ◌+◌, ◌-◌, ◌/◌, ◌<◌, ◌≤◌, ⊎_elim, subst, sym, arith}
use Rattle.std.proofs.lemmas.Bool.{cases_lt}
use Rattle.js_units.specs.Lanes.{lane_count}
use Rattle.heap_rule.specs.declared.view.View.{View}
use Rattle.heap_rule.specs.Views.{shown_word}
use Rattle.heap_read.specs.Shifted.{HasWord}
use Rattle.heap_read.proofs.Loaded.{reads_trans}
use Rattle.heap_read.proofs.Runs.{has_kept, lanes_kept, may_kept, next_lowest, run_two, same_place}
use Rattle.heap_read.proofs.Showing.{forms_held}
use Rattle.heap_read.proofs.reader.Reader.lanes_in.Goals as goal

pub lanes_here-requires-clause-may : goal.lanes_here-requires-clause-may
lanes_here-requires-clause-may g c = c.requires.may c.args.o (omega arith) (omega (arith, c.requires.some))

pub returns-then-count-here-clause-has : goal.returns-then-count-here-clause-has
returns-then-count-here-clause-has g c q l m = let of = c.args.of in let all = c.left_in_word-here.ensures.rest in let x : View = c.lanes_here.new.self.agent.seat.me.0 in
    subst (HasWord x) (sym (same_place of.wide of.start c.args.o c.args.count q (omega (arith, all, c.if-count-here.true)) l m)) c.lanes_here.ensures.has

pub lanes_here-first-requires-clause-may : goal.lanes_here-first-requires-clause-may
lanes_here-first-requires-clause-may g c = c.requires.may c.args.o (omega arith) (omega (arith, c.requires.some))

pub lanes_here-rest-requires-clause-may : goal.lanes_here-rest-requires-clause-may
lanes_here-rest-requires-clause-may g c = let v : View = c.args.self.now.agent.seat.me.0 in let x : View = c.lanes_here-first.new.self.agent.seat.me.0 in
    let o : ℕ = c.args.o + c.left_in_word-here.result in let e = c.lanes_here-first.ensures in
    may_kept v x e.reads.view (forms_held v x e.forms.0) (c.args.of.start + o / lane_count c.args.of.wide) (c.requires.may o (omega arith) (omega (arith, c.if-count-here.false)))

pub lanes_here-rest-requires-clause-room : goal.lanes_here-rest-requires-clause-room
lanes_here-rest-requires-clause-room g c = let low = next_lowest c.args.of.wide c.args.o c.left_in_word-here.result c.left_in_word-here.ensures.rest in omega (arith, low, c.requires.room)

pub returns-clause-reads : goal.returns-clause-reads
returns-clause-reads g c = let v : View = c.args.self.now.agent.seat.me.0 in let x : View = c.lanes_here-first.new.self.agent.seat.me.0 in let y : View = c.lanes_here-rest.new.self.agent.seat.me.0 in
    record { heap = cc; view = reads_trans v x y c.lanes_here-first.ensures.reads.view c.lanes_here-rest.ensures.reads.view }

pub returns-clause-has : goal.returns-clause-has
returns-clause-has g c q l m = let of = c.args.of in let o : ℕ = c.args.o in let here = c.left_in_word-here.result in let count = c.args.count in
    let x : View = c.lanes_here-first.new.self.agent.seat.me.0 in let y : View = c.lanes_here-rest.new.self.agent.seat.me.0 in
    let all = c.left_in_word-here.ensures.rest in let low = next_lowest of.wide o here all in let room = c.requires.room in let more = c.if-count-here.false in ⊎_elim
    (λ (t : q < o + here). subst (HasWord y) (sym (same_place of.wide of.start o here q (omega (arith, all)) l t))
    (has_kept x y c.lanes_here-rest.ensures.reads.view (of.start + o / lane_count of.wide) c.lanes_here-first.ensures.has))
    (λ (t : o + here ≤ q). subst (HasWord y) (sym (same_place of.wide of.start (o + here) (count - here) q (omega (arith, low, room)) t (omega (arith, m, more)))) c.lanes_here-rest.ensures.has)
    (cases_lt q (o + here))

pub returns-clause-lanes : goal.returns-clause-lanes
returns-clause-lanes g c = let of = c.args.of in let o : ℕ = c.args.o in let here = c.left_in_word-here.result in let count = c.args.count in
    let x : View = c.lanes_here-first.new.self.agent.seat.me.0 in let y : View = c.lanes_here-rest.new.self.agent.seat.me.0 in
    let first = c.lanes_here-first in let rest = c.lanes_here-rest in let all = c.left_in_word-here.ensures.rest in let more = c.if-count-here.false in
    run_two (shown_word y) of.wide of.start o count here first.result rest.result c.put_above.result (omega (arith, more))
    (lanes_kept x y of.wide of.start o here first.result rest.ensures.reads.view (omega (arith, all)) first.ensures.has first.ensures.lanes) rest.ensures.lanes
    (c.put_above.ensures.small (count - here) rest.ensures.lanes.small) c.put_above.ensures.below c.put_above.ensures.above
