use Rattle.js_io.proofs.Prefixes.{then_second}
use Rattle.js_io.proofs.writing.write_both.Goals as goal

pub returns-in-Ok : goal.returns-in-Ok
returns-in-Ok g c =
    let state = g.O.Sink.state in
    then_second c.write_all-in-Ok.result (state c.args.sink.now) (state c.write_all.new.sink) (state c.write_all-in-Ok.new.sink)
    c.args.first.now c.args.second.now c.in-Ok.ensures c.write_all-in-Ok.ensures
