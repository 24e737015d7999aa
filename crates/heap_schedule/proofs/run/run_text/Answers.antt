use Rattle.std.proofs.Common.{rules, ◌≡◌, ◌∙◌, Err, length, sym, subst}
use Rattle.std.specs.Prelude.{IfOk}
use Rattle.std.proofs.lemmas.List.{length-map}
use Rattle.heap_schedule.specs.declared.run.Shown.{Shown}
use Rattle.heap_schedule.specs.Outcome.{IsShown}
use Rattle.heap_schedule.specs.Lines.{turn_named}
use Rattle.heap_schedule.specs.Text.{GivesSchedule, schedule_of, turns_of}
use Rattle.heap_schedule.proofs.Told.{text_memory, text_played, text_refused}
use Rattle.heap_schedule.proofs.run.run_text.Goals as goal

pub returns-in-Ok-play : goal.returns-in-Ok-play
returns-in-Ok-play g c =
    let s = c.in-Ok.schedule in
    let shown = c.in-Ok-play.shown in
    let shows : IsShown s.making (turns_of s) shown.bytes.items shown.played =
    subst (λ r. IfOk r (λ (x : Shown). IsShown s.making (turns_of s) x.bytes.items x.played)) c.in-Ok-play.is c.play.ensures in
    let long : c.len.result ≡ length s.lines.items = search rules in
    text_played c.args.text.now _ _ _ s.making (turns_of s) shown.played c.len.result shown.bytes.items c.in-Ok.ensures shows
    (long ∙ sym (length-map s.lines.items turn_named)) c.tell_play.ensures

pub returns-in-Ok : goal.returns-in-Ok
returns-in-Ok g c = text_memory c.args.text.now _ _ _ (c.tell_memory.ensures (g.O.Sink.state c.args.out.now))

pub returns-in-Refused : goal.returns-in-Refused
returns-in-Refused g c =
    let is = subst (λ s. GivesSchedule (Err s) (schedule_of c.args.text.now)) c.in-Refused.is c.in-Err.ensures in
    text_refused c.args.text.now _ _ _ c.in-Refused.line is (c.tell_refused.ensures (g.O.Sink.state c.args.out.now))

pub returns : goal.returns
returns g c = text_memory c.args.text.now _ _ _ (c.tell_memory-in-Memory.ensures (g.O.Sink.state c.args.out.now))
