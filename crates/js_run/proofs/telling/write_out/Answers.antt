use Rattle.std.proofs.Common.{flat_map}
use Rattle.js_io.proofs.Prefixes.{then_second}
use Rattle.run_program.specs.declared.job.Outcome.{Outcome}
use Rattle.js_run.specs.Verdict.{count_line}
use Rattle.js_run.proofs.telling.write_out.Goals as goal

pub returns-in-Ok : goal.returns-in-Ok
returns-in-Ok g c =
    let state = g.O.Sink.state in
    then_second c.write_count.result (state c.args.out.now) (state c.write_lines.new.out) (state c.write_count.new.out)
    (flat_map (λ (o : Outcome). o.lines) c.args.ran.now.scripts.items) (count_line c.args.ran.now.interned)
    (rw (c.deref.ensures.value) at c.in-Ok.ensures) c.write_count.ensures
