use Rattle.std.proofs.Common.{rules, ◌≡◌}
use Rattle.heap_schedule.proofs.Told.{stop_cut}
use Rattle.heap_schedule.proofs.run.tell_play.Goals as goal

pub returns-in-Err-write_number : goal.returns-in-Err-write_number
returns-in-Err-write_number g c =
    let shown = c.args.shown.now in
    let same : c.deref.result.now ≡ shown.bytes.items = search rules in
    stop_cut c.args.lines shown.played shown.bytes.items (g.O.Sink.state c.args.out.now) (g.O.Sink.state c.write_all.new.sink)
    (g.E.Sink.state c.args.err.now) (g.E.Sink.state c.write_number.new.sink) c.in-Err-write_number.field-0 shown.next c.deref.result.now shown.next_is same
    c.if-shown-lines.false c.in-Ok.ensures c.in-Err-write_number.ensures
