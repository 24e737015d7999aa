use Rattle.std.proofs.Common.{◌++◌, ◌∷◌, [], decimal}
use Rattle.js_io.proofs.Prefixes.{then_second, first_failed}
use Rattle.js_run.proofs.telling.write_count.Goals as goal

pub returns-in-Ok : goal.returns-in-Ok
returns-in-Ok g c =
    let state = g.O.Sink.state in
    rw (c.in-Some.is) (then_second c.write_number.result (state c.args.out.now) (state c.write_all.new.sink) (state c.write_number.new.sink) _ _ c.in-Ok.ensures c.write_number.ensures)

pub returns-in-Err : goal.returns-in-Err
returns-in-Err g c =
    let state = g.O.Sink.state in
    rw (c.in-Some.is) (first_failed c.in-Err.field-0 (state c.args.out.now) (state c.write_all.new.sink) _ (decimal c.in-Some.count ++ 10 ∷ []) c.in-Err.ensures)
