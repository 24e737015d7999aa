use Rattle.std.proofs.Common.{drop, Result, flat_map}
use Rattle.js_io.specs.SinkState.{SinkState, WritesAll}
use Rattle.js_io.specs.declared.sink.Failed.{Failed}
use Rattle.run_program.specs.declared.job.Outcome.{Outcome}
use Rattle.js_run.proofs.telling.write_lines.Given as goal

-- whatever writes what is left, writes the whole
abbrev pub invariant-loop-script : goal.invariant-loop-script
invariant-loop-script g l = (c : SinkState) (r : Result Unit Failed) → WritesAll r (g.O.Sink.state l.out) c
    (flat_map (λ (o : Outcome). o.lines) (drop l.script-index l.scripts)) → WritesAll r (g.O.Sink.state l.fn.out) c
    (flat_map (λ (o : Outcome). o.lines) l.scripts)
