use Rattle.std.proofs.Common.{◌≡◌, None, map, refl}
use Rattle.std.specs.String.{string_bytes}
use Rattle.run_command.specs.Words.{request_of}
use Rattle.js_run.specs.Moment.{moment}
use Rattle.js_run.proofs.Becoming.{memory_outcome, outcome, refused_outcome}
use Rattle.js_run.proofs.run.run.Goals as goal
use Rattle.js_io.specs.Report.{sinks}

pub returns-in-Ok : goal.returns-in-Ok
returns-in-Ok g c =
    let state = g.F.Files.state in
    let words = map string_bytes c.args.words.now in
    outcome words c.run_plan.result.code c.run_plan.result.kept
    (moment (state c.args.files.now) (g.O.Sink.state c.args.out.now) (g.E.Sink.state c.args.err.now))
    (moment (state c.run_plan.new.files) (g.O.Sink.state c.run_plan.new.out) (g.E.Sink.state c.run_plan.new.err))
    c.run_plan.ensures.keeps (c.run_plan.ensures.becomes words c.in-Ok.ensures.planned)

pub returns-in-Refused : goal.returns-in-Refused
returns-in-Refused g c =
    let out = g.O.Sink.state c.args.out.now in
    let unlawful : request_of (map string_bytes c.args.words.now) ≡ None = rw (c.in-Refused.is) at c.in-Err.ensures.refused in
    refused_outcome (map string_bytes c.args.words.now) c.tell_words.result None (g.F.Files.state c.args.files.now)
    (sinks out (g.E.Sink.state c.args.err.now)) (sinks out (g.E.Sink.state c.tell_words.new.err)) refl unlawful (c.tell_words.ensures out)

pub returns-in-Memory : goal.returns-in-Memory
returns-in-Memory g c =
    let out = g.O.Sink.state c.args.out.now in
    memory_outcome (map string_bytes c.args.words.now) c.stopped.result.code c.stopped.result.kept (g.F.Files.state c.args.files.now)
    (sinks out (g.E.Sink.state c.args.err.now)) (sinks out (g.E.Sink.state c.stopped.new.err)) c.stopped.ensures.kept (c.stopped.ensures.told out)
