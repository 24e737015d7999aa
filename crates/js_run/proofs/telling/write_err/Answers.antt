use Rattle.std.proofs.Common.{ℕ, List, sym, subst}
use Rattle.js_io.specs.SinkState.{WritesAll}
use Rattle.js_io.proofs.Prefixes.{then_second}
use Rattle.js_run.specs.Verdict.{end_line}
use Rattle.js_run.proofs.Written.{behind_prelude, lines_from, without_prelude}
use Rattle.js_run.proofs.telling.write_err.Goals as goal

pub returns-in-None : goal.returns-in-None
returns-in-None g c =
    let state = g.E.Sink.state in
    let sources = c.args.sources.now in
    let ran = c.args.ran.now in
    subst (λ (l : List ℕ). WritesAll c.write_ends.result (state c.args.err.now) (state c.write_ends.new.err) l)
    (sym (without_prelude sources.prelude sources.scripts.items ran.prelude ran.scripts.items c.requires.prelude c.in-None.is))
    (rw (c.deref.ensures.value, c.deref-in-None.ensures.value) at c.write_ends.ensures)

pub returns-in-Ok : goal.returns-in-Ok
returns-in-Ok g c =
    let state = g.E.Sink.state in
    let sources = c.args.sources.now in
    let ran = c.args.ran.now in
    let first = c.in-Some.source in
    let outcome = c.in-Some-prelude.prelude in
    subst (λ (l : List ℕ). WritesAll c.write_ends-in-Ok.result (state c.args.err.now) (state c.write_ends-in-Ok.new.err) l)
    (sym (behind_prelude first outcome sources.prelude sources.scripts.items ran.prelude ran.scripts.items c.in-Some.is c.in-Some-prelude.is))
    (then_second c.write_ends-in-Ok.result (state c.args.err.now) (state c.write_end.new.err) (state c.write_ends-in-Ok.new.err)
    (end_line first.name.now outcome.end) (lines_from sources.scripts.items ran.scripts.items) c.in-Ok.ensures
    (rw (c.deref-in-Ok.ensures.value, c.deref-in-Ok-2.ensures.value) at c.write_ends-in-Ok.ensures))
