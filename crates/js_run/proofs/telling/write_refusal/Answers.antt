use Rattle.js_io.proofs.Prefixes.{then_second}
use Rattle.js_run.proofs.telling.write_refusal.Goals as goal

pub returns-in-Ok : goal.returns-in-Ok
returns-in-Ok g c =
    let state = g.E.Sink.state in
    then_second c.write_both.result (state c.args.err.now) (state c.write_place.new.sink) (state c.write_both.new.sink) _ _
    (rw (c.offset.ensures) at c.in-Ok.ensures) (rw (c.words.ensures) at c.write_both.ensures)
