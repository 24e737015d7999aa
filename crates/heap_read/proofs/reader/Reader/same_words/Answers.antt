use Rattle.std.proofs.Common.{false, true}
use Rattle.heap_rule.specs.declared.view.View.{View}
use Rattle.heap_read.proofs.Turns.{has_width, one_width}
use Rattle.heap_read.proofs.reader.Reader.same_words.Goals as goal

pub same_lanes-requires-clause-right : goal.same_lanes-requires-clause-right
same_lanes-requires-clause-right g c = let v : View = c.args.self.now.agent.seat.me.0 in
    let e = one_width c.args.a.wide c.args.b.wide true c.if-a-b.false c.if-a.true in
    (c.requires.right.0, has_width v c.args.b c.requires.right.0 true e c.requires.right.1)

pub same_lanes-requires-2-clause-right : goal.same_lanes-requires-2-clause-right
same_lanes-requires-2-clause-right g c = let v : View = c.args.self.now.agent.seat.me.0 in
    let e = one_width c.args.a.wide c.args.b.wide false c.if-a-b.false c.if-a.false in
    (c.requires.right.0, has_width v c.args.b c.requires.right.0 false e c.requires.right.1)

pub returns-then-a-clause-same : goal.returns-then-a-clause-same
returns-then-a-clause-same g c us vs left right = let v : View = c.args.self.now.agent.seat.me.0 in
    let e = one_width c.args.a.wide c.args.b.wide true c.if-a-b.false c.if-a.true in
    c.same_lanes.ensures.same us vs (has_width v c.args.a us true c.if-a.true left) (has_width v c.args.b vs true e right)

pub returns-clause-same : goal.returns-clause-same
returns-clause-same g c us vs left right = let v : View = c.args.self.now.agent.seat.me.0 in
    let e = one_width c.args.a.wide c.args.b.wide false c.if-a-b.false c.if-a.false in
    c.same_lanes-2.ensures.same us vs (has_width v c.args.a us false c.if-a.false left) (has_width v c.args.b vs false e right)
