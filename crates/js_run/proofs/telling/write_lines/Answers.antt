use Rattle.std.proofs.Common.{Ok, Err, refl, drop_of_length-le, flat_map}
use Rattle.std.proofs.lemmas.Result.{err_from_is_err_and}
use Rattle.run_program.specs.declared.job.Outcome.{Outcome}
use Rattle.js_run.proofs.Written.{nothing, piece_then, piece_failed}
use Rattle.js_run.proofs.telling.write_lines.Goals as goal

pub loop-script-preserved : goal.loop-script-preserved
loop-script-preserved g c =
    let state = g.O.Sink.state in
    λ d r w. c.loop-script.invariant d r
    (piece_then (λ (o : Outcome). o.lines) (flat_map (λ (o : Outcome). o.lines)) (λ o os. refl) c.args.scripts.now
    c.loop-script.script-index c.script-item.result c.loop-script-test.true c.script-item.is r (state c.loop-script.out) (state c.write_all.new.sink) d
    (rw (c.bytes.ensures) at c.in_ok-write_all.ensures) w)

pub returns-in_err-write_all : goal.returns-in_err-write_all
returns-in_err-write_all g c =
    let state = g.O.Sink.state in
    let p = err_from_is_err_and c.from_residual.result c.from_residual.ensures.1 in
    rw (p.1, p.2) (c.loop-script.invariant (state c.write_all.new.sink) (Err c.in_err-write_all.field-0.0)
    (piece_failed (λ (o : Outcome). o.lines) (flat_map (λ (o : Outcome). o.lines)) (λ o os. refl) c.args.scripts.now
    c.loop-script.script-index c.script-item.result c.loop-script-test.true c.script-item.is c.in_err-write_all.field-0.0
    (state c.loop-script.out) (state c.write_all.new.sink)
    (rw (c.bytes.ensures) at c.in_err-write_all.ensures)))

pub returns : goal.returns
returns g c =
    let past = drop_of_length-le c.args.scripts.now {i = c.loop-script.script-index} c.loop-script-test.false in
    c.loop-script.invariant (g.O.Sink.state c.loop-script.out) (Ok tt) (rw (past) (nothing (g.O.Sink.state c.loop-script.out)))
