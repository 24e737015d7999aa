use Rattle.std.proofs.Common.{◌≡◌, ◌+◌, ◌%◌, Bool, subst, false, true}
use Rattle.js_units.specs.Lanes.{lane_count}
use Rattle.heap_read.proofs.Turns.{has_width}
use Rattle.heap_read.proofs.reader.Reader.whole_words_into.Goals as goal

pub lanes_into-requires-clause-window : goal.lanes_into-requires-clause-window
lanes_into-requires-clause-window g c = (c.requires.window.0, has_width c.args.self.now.agent.seat.me.0 c.args.w c.requires.window.0 true c.if-w.true c.requires.window.1)

pub lanes_into-requires-2-clause-window : goal.lanes_into-requires-2-clause-window
lanes_into-requires-2-clause-window g c = (c.requires.window.0, has_width c.args.self.now.agent.seat.me.0 c.args.w c.requires.window.0 false c.if-w.false c.requires.window.1)

pub lanes_into-requires-clause-lowest : goal.lanes_into-requires-clause-lowest
lanes_into-requires-clause-lowest g c = subst (λ (b : Bool). (c.args.w.offset + (c.args.from + c.args.done)) % lane_count b ≡ 0) c.if-w.true c.requires.lowest

pub lanes_into-requires-2-clause-lowest : goal.lanes_into-requires-2-clause-lowest
lanes_into-requires-2-clause-lowest g c = subst (λ (b : Bool). (c.args.w.offset + (c.args.from + c.args.done)) % lane_count b ≡ 0) c.if-w.false c.requires.lowest

pub returns-then-w-clause-inside : goal.returns-then-w-clause-inside
returns-then-w-clause-inside g c us window = c.lanes_into.ensures.inside us (has_width c.args.self.now.agent.seat.me.0 c.args.w us true c.if-w.true window)

pub returns-clause-inside : goal.returns-clause-inside
returns-clause-inside g c us window = c.lanes_into-2.ensures.inside us (has_width c.args.self.now.agent.seat.me.0 c.args.w us false c.if-w.false window)
