use Rattle.std.proofs.Common.{drop, Result}
use Rattle.js_io.specs.SinkState.{SinkState, WritesAll}
use Rattle.js_io.specs.declared.sink.Failed.{Failed}
use Rattle.js_run.proofs.Written.{lines_from}
use Rattle.js_run.proofs.telling.write_ends.Given as goal

-- whatever writes what is left, writes the whole
abbrev pub invariant-loop-k : goal.invariant-loop-k
invariant-loop-k g l = (c : SinkState) (r : Result Unit Failed) → WritesAll r (g.E.Sink.state l.err) c
    (lines_from (drop l.k l.sources) (drop l.k l.scripts)) → WritesAll r (g.E.Sink.state l.fn.err) c (lines_from l.sources l.scripts)
