use Rattle.std.proofs.Common.{◌≡◌, [], Ok, drop, arith, drop_of_length-le}
use Rattle.js_run.proofs.Written.{nothing, line_then, no_lines}
use Rattle.js_run.proofs.telling.write_ends.Goals as goal

pub loop-k-preserved : goal.loop-k-preserved
loop-k-preserved g c =
    let state = g.E.Sink.state in
    λ d r w. c.loop-k.invariant d r
    (line_then c.args.sources.now c.args.scripts.now c.loop-k.k c.index-sources-k.result c.index-scripts-k.result (omega (arith, c.loop-k-test.true, c.requires)) c.loop-k-test.true
    c.index-sources-k.is c.index-scripts-k.is r (state c.loop-k.err) (state c.write_end.new.err) d c.in_ok-write_end.ensures w)

pub returns : goal.returns
returns g c =
    let past : drop c.loop-k.k c.args.scripts.now ≡ [] = drop_of_length-le c.args.scripts.now {i = c.loop-k.k} c.loop-k-test.false in
    c.loop-k.invariant (g.E.Sink.state c.loop-k.err) (Ok tt) (rw (no_lines (drop c.loop-k.k c.args.sources.now) (drop c.loop-k.k c.args.scripts.now) past) (nothing (g.E.Sink.state c.loop-k.err)))
