use Rattle.std.proofs.Common.{◌≡◌, ◌∙◌, length, map, option_map, ap, subst, sym, arith}
use Rattle.std.proofs.lemmas.List.{length-map}
use Rattle.run_command.specs.declared.plan.Input.{Input}
use Rattle.run_command.specs.Words.{IsSomeFiles, asked_for, files, request_for}
use Rattle.run_sources.specs.Texts.{Named, generated, named_for}
use Rattle.run_sources.specs.Answers.{source_for, sources_for}
use Rattle.run_sources.specs.Program.{Program, program_from}
use Rattle.js_run.specs.Answer.{Becomes, HasCauseOf}
use Rattle.js_run.specs.Moment.{moment}
use Rattle.js_run.proofs.Becoming.{file_stopped, files_became, made_became, made_scripts, memory_became, read_length, still_quiet}
use Rattle.js_run.proofs.stages.run_plan.Goals as goal

-- files

pub run_scripts-requires-clause-few : goal.run_scripts-requires-clause-few
run_scripts-requires-clause-few g c =
    let some = subst (λ (i : Input). IsSomeFiles (asked_for i)) c.in-Files.is c.requires.files in
    let read = read_length (g.F.Files.state c.args.files.now).held _ _ c.in-Ok.ensures.read.scripts in
    omega (
      arith,
      read,
      some.1,
      length-map c.in-Ok.sources.scripts.items source_for,
      length-map c.in-Files.scripts.items (λ n. n.now),
      length-map c.deref.result.now (λ n. n.now),
      ap length c.deref.ensures.value,
    )

pub returns-in-Ok-clause-becomes : goal.returns-in-Ok-clause-becomes
returns-in-Ok-clause-becomes g c words lawful =
    let state = g.F.Files.state in
    let end = c.run_scripts.result in
    files_became words (request_for c.args.plan.now) lawful end.code end.kept
    (moment (state c.args.files.now) (g.O.Sink.state c.args.out.now) (g.E.Sink.state c.args.err.now))
    (moment (state c.read_sources.new.files) (g.O.Sink.state c.run_scripts.new.out) (g.E.Sink.state c.run_scripts.new.err)) _ _
    (sources_for c.in-Ok.sources) c.setup-setup.result
    (ap asked_for c.in-Files.is ∙ ap (λ l. files (option_map (λ n. n.now) c.in-Files.prelude) (map (λ n. n.now) l)) (sym c.deref.ensures.value))
    c.setup-setup.ensures c.in-Ok.ensures.read c.in-Ok.ensures.quiet c.run_scripts.ensures

pub returns-in-Err-clause-becomes : goal.returns-in-Err-clause-becomes
returns-in-Err-clause-becomes g c words lawful =
    let state = g.F.Files.state in
    let out = g.O.Sink.state c.args.out.now in
    let end = c.stopped.result in
    file_stopped words (request_for c.args.plan.now) lawful end.code end.kept (moment (state c.args.files.now) out (g.E.Sink.state c.args.err.now))
    (moment (state c.read_sources.new.files) out (g.E.Sink.state c.stopped.new.err)) _ _ c.in-Err.stop
    (ap asked_for c.in-Files.is ∙ ap (λ l. files (option_map (λ n. n.now) c.in-Files.prelude) (map (λ n. n.now) l)) (sym c.deref.ensures.value))
    c.in-Err.ensures.refused c.stopped.ensures.kept (c.stopped.ensures.told out)

-- generated scripts

pub returns-in_default-clause-becomes : goal.returns-in_default-clause-becomes
returns-in_default-clause-becomes g c words lawful =
    let f = g.F.Files.state c.args.files.now in
    let out = g.O.Sink.state c.args.out.now in
    let end = c.stopped-in_default in
    memory_became words (request_for c.args.plan.now) lawful end.result.code end.result.kept (moment f out (g.E.Sink.state c.args.err.now)) (moment f out (g.E.Sink.state end.new.err))
    (still_quiet f) end.ensures.kept (end.ensures.told out)

pub returns-in_default-made_sources-clause-becomes : goal.returns-in_default-made_sources-clause-becomes
returns-in_default-made_sources-clause-becomes g c words lawful =
    let f = g.F.Files.state c.args.files.now in
    let out = g.O.Sink.state c.args.out.now in
    let end = c.stopped-in_default-made_sources in
    memory_became words (request_for c.args.plan.now) lawful end.result.code end.result.kept (moment f out (g.E.Sink.state c.args.err.now)) (moment f out (g.E.Sink.state end.new.err))
    (still_quiet f) end.ensures.kept (end.ensures.told out)

pub run_scripts-requires-in-Generated-clause-few : goal.run_scripts-requires-in-Generated-clause-few
run_scripts-requires-in-Generated-clause-few g c = λ κs lives.
    let number = c.in-Generated.number in
    let sources = c.in-Ok-made_sources.sources in
    let all : sources_for sources ≡ program_from (generated number) =
    c.in-Ok-made_sources.ensures.made ∙ (ap (λ l. program_from (map named_for l)) c.deref-in-Generated.ensures.value ∙ ap program_from c.in-Ok-texts_from.ensures.made) in
    omega (arith, ap (λ p. length p.scripts) all, made_scripts number, length-map sources.scripts.items source_for)

pub returns-in-Ok-made_sources-clause-becomes : goal.returns-in-Ok-made_sources-clause-becomes
returns-in-Ok-made_sources-clause-becomes g c words lawful =
    let f = g.F.Files.state c.args.files.now in
    let setup = c.setup-setup.result in
    let run = c.run_scripts-in-Generated in
    let number = c.in-Generated.number in
    let old = moment f (g.O.Sink.state c.args.out.now) (g.E.Sink.state c.args.err.now) in
    let new = moment f (g.O.Sink.state run.new.out) (g.E.Sink.state run.new.err) in
    let all : sources_for c.in-Ok-made_sources.sources ≡ program_from (generated number) =
    c.in-Ok-made_sources.ensures.made ∙ (ap (λ l. program_from (map named_for l)) c.deref-in-Generated.ensures.value ∙ ap program_from c.in-Ok-texts_from.ensures.made) in
    made_became words (request_for c.args.plan.now) lawful run.result.code run.result.kept old new number setup (ap asked_for c.in-Generated.is) c.setup-setup.ensures (still_quiet f)
    (subst (λ (s : Program Named). Becomes (HasCauseOf setup s) run.result.code run.result.kept old.sinks new.sinks) all run.ensures)
