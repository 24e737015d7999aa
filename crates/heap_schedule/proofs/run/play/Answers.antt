use Rattle.std.proofs.Common.{rules, ◌≡◌, length}
use Rattle.heap_schedule.proofs.Told.{play_shown}
use Rattle.heap_schedule.proofs.run.play.Goals as goal

pub returns-in-Ok : goal.returns-in-Ok
returns-in-Ok c =
    let s = c.args.schedule.now in
    let xs = c.in_ok-found-in-Ok.found.items in
    let e = c.in_ok-found-in-Ok.ensures in
    let lines : c.deref.result.now ≡ s.lines.items = search rules in
    let same : c.deref-in-Ok.result.now ≡ xs = search rules in
    let long : c.len.result ≡ length xs = search rules in
    play_shown s.making s.lines.items c.deref.result.now c.apply.new.state c.play_lines.new.state xs c.deref-in-Ok.result.now c.in_ok-bytes-in-Ok.bytes.items
    c.len.result lines c.in-Ok.ensures.after c.in-Ok.ensures.sound e.ends e.after e.found c.in_ok-bytes-in-Ok.ensures same long
