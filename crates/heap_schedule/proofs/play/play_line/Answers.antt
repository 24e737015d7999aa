use Rattle.std.proofs.Common.{sym, subst}
use Rattle.heap_schedule.specs.Lines.{turn_named}
use Rattle.heap_schedule.specs.Play.{IsPlayed}
use Rattle.heap_schedule.proofs.Played.{plays_entering, plays_event}
use Rattle.heap_schedule.proofs.play.play_line.Goals as goal

pub returns-in-Ok : goal.returns-in-Ok
returns-in-Ok c =
    let s = c.args.state.now in
    let t = c.apply-in-Ok.new.state in
    let r = c.apply-in-Ok.result in
    let en = c.apply-in-Ok.ensures in
    subst (λ l. IsPlayed s (turn_named l) t r) (sym c.in-Enter.is) (plays_entering s t c.in-Enter.view c.in-Enter.slot c.in-Enter.learn.items c.in-Ok.event r c.in-Ok.ensures
    (plays_event s t c.in-Ok.event r en.enabled en.after en.found en.not_enabled en.unchanged en.sound))
