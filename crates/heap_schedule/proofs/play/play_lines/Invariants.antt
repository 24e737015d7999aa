use Rattle.std.proofs.Common.{map}
use Rattle.heap_schedule.specs.Lines.{turn_named}
use Rattle.heap_schedule.proofs.Played.{ArePlayed}
use Rattle.heap_schedule.proofs.play.play_lines.Given as goal

abbrev pub invariant-loop-line : goal.invariant-loop-line
invariant-loop-line l = ArePlayed (map turn_named l.lines) l.line-index l.fn.state l.state l.found.items
