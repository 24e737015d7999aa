use Rattle.std.proofs.Common.{Option, Some, arith, refl, subst}
use Rattle.std.proofs.lemmas.List.{length-map}
use Rattle.eval_tree.specs.Tree.{Tree, tree_of}
use Rattle.run_sources.specs.Answers.{source_for, sources_for, trees_for}
use Rattle.run_program.specs.Ran.{IsRan, trees_of}
use Rattle.js_run.proofs.Becoming.{memory_stopped, named, program_length, program_ran, script_stopped, tree_same}
use Rattle.js_run.proofs.stages.run_scripts.Goals as goal
use Rattle.js_io.specs.Report.{sinks}

pub returns-in-Err : goal.returns-in-Err
returns-in-Err g c =
    let out = g.O.Sink.state c.args.out.now in
    script_stopped c.args.setup (sources_for c.args.sources.now) c.stopped.result.code c.stopped.result.kept (sinks out (g.E.Sink.state c.args.err.now)) (sinks out (g.E.Sink.state c.stopped.new.err))
    c.in-Err.stop c.in-Err.ensures.refused c.stopped.ensures.kept (c.stopped.ensures.told out)

pub run_program-requires-clause-few : goal.run_program-requires-clause-few
run_program-requires-clause-few g c = λ κs lives.
    let long = program_length (sources_for c.args.sources.now) (trees_for c.in-Ok.parsed) c.in-Ok.ensures.spell in
    omega (arith, long, c.requires.few, length-map c.args.sources.now.scripts.items source_for, length-map c.in-Ok.parsed.scripts.items tree_of)

pub returns-in_default : goal.returns-in_default
returns-in_default g c =
    let out = g.O.Sink.state c.args.out.now in
    memory_stopped c.args.setup (sources_for c.args.sources.now) c.stopped-in_default.result.code c.stopped-in_default.result.kept (sinks out (g.E.Sink.state c.args.err.now))
    (sinks out (g.E.Sink.state c.stopped-in_default.new.err)) c.stopped-in_default.ensures.kept (c.stopped-in_default.ensures.told out)

pub tell_ran-code-requires : goal.tell_ran-code-requires
tell_ran-code-requires g c =
    let parsed = c.in-Ok.parsed in
    let same = tree_same c.as_ref.result parsed.prelude c.as_ref.ensures.value in
    named c.args.setup c.args.sources.now (trees_for parsed) c.in-Ok-run_program.ran c.in-Ok.ensures.spell
    (subst (λ (t : Option Tree). IsRan c.args.setup t (trees_of parsed.scripts.items) c.in-Ok-run_program.ran) same c.in-Ok-run_program.ensures.ran)

pub returns : goal.returns
returns g c =
    let parsed = c.in-Ok.parsed in
    let ran = c.in-Ok-run_program.ran in
    let same = tree_same c.as_ref.result parsed.prelude c.as_ref.ensures.value in
    program_ran c.args.setup (sources_for c.args.sources.now) c.tell_ran-code.result (Some ran.kept)
    (sinks (g.O.Sink.state c.args.out.now) (g.E.Sink.state c.args.err.now)) (sinks (g.O.Sink.state c.tell_ran-code.new.out) (g.E.Sink.state c.tell_ran-code.new.err))
    (trees_for parsed) ran c.in-Ok.ensures.spell
    (subst (λ (t : Option Tree). IsRan c.args.setup t (trees_of parsed.scripts.items) ran) same c.in-Ok-run_program.ensures.ran) refl c.tell_ran-code.ensures
