use Rattle.std.proofs.Common.{ℕ, List, map, option_map}
use Rattle.std.proofs.lemmas.Result.{err_from_is_err_and}
use Rattle.std.specs.Borrow.{Bor}
use Rattle.run_sources.specs.Answers.{names_for, source_for, sources_for}
use Rattle.run_sources.proofs.Stages.{prelude_halt, read_of, read_short, scripts_halt}
use Rattle.run_sources.proofs.reading.read_sources.Goals as goal

pub returns-in_err-prelude-clause-refused : goal.returns-in_err-prelude-clause-refused
returns-in_err-prelude-clause-refused g c =
    let state = g.F.Files.state in
    let p = err_from_is_err_and c.from_residual.result c.from_residual.ensures.1 in
    rw (p.1, p.2) (prelude_halt (state c.args.files.now) (state c.read_prelude.new.files)
    (option_map (λ (n : Bor (List ℕ)). n.now) c.args.prelude) (map (λ (n : Bor (List ℕ)). n.now) c.args.scripts.now)
    c.in_err-prelude.field-0.0 c.in_err-prelude.ensures.refused)

pub returns-in_err-scripts-clause-refused : goal.returns-in_err-scripts-clause-refused
returns-in_err-scripts-clause-refused g c =
    let state = g.F.Files.state in
    let p = err_from_is_err_and c.from_residual-in_err-scripts.result c.from_residual-in_err-scripts.ensures.1 in
    let e = c.in_ok-prelude.ensures in
    rw (p.1, p.2) (scripts_halt (state c.args.files.now) (state c.read_prelude.new.files) (option_map (λ (n : Bor (List ℕ)). n.now) c.args.prelude) (option_map source_for c.in_ok-prelude.prelude)
    e.keeps e.read (state c.read_scripts.new.files) (map (λ (n : Bor (List ℕ)). n.now) c.args.scripts.now) c.in_err-scripts.field-0.0 e.quiet c.in_err-scripts.ensures.refused)

pub returns-clause-read : goal.returns-clause-read
returns-clause-read g c =
    let state = g.F.Files.state in
    let e = c.in_ok-prelude.ensures in
    record {
      prelude = e.read;
      scripts = read_of (state c.args.files.now) (state c.read_prelude.new.files) (map (λ (n : Bor (List ℕ)). n.now) c.args.scripts.now)
          (map source_for c.in_ok-scripts.scripts.items) e.keeps c.in_ok-scripts.ensures.read;
    }

pub returns-clause-short : goal.returns-clause-short
returns-clause-short g c =
    let state = g.F.Files.state in
    let e = c.in_ok-prelude.ensures in
    read_short (state c.args.files.now).held (names_for c.args.prelude c.args.scripts.now) (sources_for (record { prelude = c.in_ok-prelude.prelude; scripts = c.in_ok-scripts.scripts })) (record {
      prelude = e.read;
      scripts = read_of (state c.args.files.now) (state c.read_prelude.new.files) (map (λ (n : Bor (List ℕ)). n.now) c.args.scripts.now)
          (map source_for c.in_ok-scripts.scripts.items) e.keeps c.in_ok-scripts.ensures.read;
    })
