use Rattle.std.proofs.Common.{◌++◌, ℕ, List, Result, Err, decimal, append_assoc, subst}
use Rattle.js_io.specs.SinkState.{SinkState, WritesAll}
use Rattle.js_io.proofs.Prefixes.{then_second, first_failed}
use Rattle.js_run.proofs.telling.write_place.Goals as goal

-- four pieces, put together from the left or from the right
regroup : {E : Type 0} (r : Result Unit E) (a b : SinkState) (name before rest : List ℕ) → WritesAll r a b ((name ++ before) ++ rest) → WritesAll r a b (name ++ (before ++ rest))
regroup r a b name before rest w = subst (λ (l : List ℕ). WritesAll r a b l) (append_assoc name before rest) w

pub returns-in-Ok : goal.returns-in-Ok
returns-in-Ok g c =
    let state = g.O.Sink.state in
    let old = state c.args.sink.now in
    let mid = state c.write_both.new.sink in
    let new = state c.write_number.new.sink in
    regroup c.write_number.result old new c.args.name.now c.args.before.now (decimal c.args.at ++ c.args.behind.now)
    (then_second c.write_number.result old mid new _ _
    (rw (c.as_bytes.ensures.value) at c.in-Ok.ensures) c.write_number.ensures)

pub returns-in-Err : goal.returns-in-Err
returns-in-Err g c =
    let state = g.O.Sink.state in
    let old = state c.args.sink.now in
    let new = state c.write_both.new.sink in
    regroup (Err c.in-Err.field-0) old new c.args.name.now c.args.before.now (decimal c.args.at ++ c.args.behind.now)
    (first_failed c.in-Err.field-0 old new (c.args.name.now ++ c.args.before.now) (decimal c.args.at ++ c.args.behind.now) (rw (c.as_bytes.ensures.value) at c.in-Err.ensures))
