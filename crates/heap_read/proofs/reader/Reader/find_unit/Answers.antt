use Rattle.std.proofs.Common.{false, true}
use Rattle.heap_read.proofs.Turns.{has_width}
use Rattle.heap_read.proofs.reader.Reader.find_unit.Goals as goal

pub find_lane-requires-clause-window : goal.find_lane-requires-clause-window
find_lane-requires-clause-window g c = (c.requires.window.0, has_width c.args.self.now.agent.seat.me.0 c.args.w c.requires.window.0 true c.if-w.true c.requires.window.1)

pub find_lane-requires-2-clause-window : goal.find_lane-requires-2-clause-window
find_lane-requires-2-clause-window g c = (c.requires.window.0, has_width c.args.self.now.agent.seat.me.0 c.args.w c.requires.window.0 false c.if-w.false c.requires.window.1)

pub returns-then-w-clause-least : goal.returns-then-w-clause-least
returns-then-w-clause-least g c us window = c.find_lane.ensures.least us (has_width c.args.self.now.agent.seat.me.0 c.args.w us true c.if-w.true window)

pub returns-clause-least : goal.returns-clause-least
returns-clause-least g c us window = c.find_lane-2.ensures.least us (has_width c.args.self.now.agent.seat.me.0 c.args.w us false c.if-w.false window)
