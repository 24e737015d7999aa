use Rattle.std.proofs.Common.{◌+◌, [], ℕ, List, map, take, drop, get_or}
use Rattle.std.proofs.lemmas.Result.{err_from_is_err_and}
use Rattle.std.proofs.lemmas.List.{map_push}
use Rattle.std.specs.Borrow.{Bor}
use Rattle.run_sources.specs.Answers.{source_for}
use Rattle.run_sources.specs.Reading as reading
use Rattle.run_sources.specs.Reading.{Read}
use Rattle.run_sources.proofs.Turns.{mapped_more, mapped_parted, same_item}
use Rattle.run_sources.proofs.Stages.{keeps_refl, keeps_trans, quiet_refl, quiet_trans, read_turn, read_halt}
use Rattle.run_sources.proofs.reading.read_scripts.Goals as goal

pub loop-name-init : goal.loop-name-init
loop-name-init g c =
    let a = g.F.Files.state c.args.files.now in
    rw (c.new-sources.ensures.items) (record { keeps = keeps_refl a; quiet = quiet_refl a; read = reading.Read.none })

pub loop-name-preserved : goal.loop-name-preserved
loop-name-preserved g c =
    let state = g.F.Files.state in
    let a = state c.args.files.now in
    let b = state c.loop-name.files in
    let d = state c.read_file.new.files in
    let i = c.loop-name.invariant in
    let e = c.in_ok-source.ensures in
    let source = c.in_ok-source.source in
    let so_far = c.loop-name.sources.items in
    let all = c.args.names.now in
    let k = c.loop-name.name-index in
    let none : Bor (List ℕ) = record { ref_ptr = (0, 0); now = [] } in
    let item = get_or all k none in
    let names = mapped_more (λ (n : Bor (List ℕ)). n.now) all k item c.loop-name-test.true (same_item all k none item c.loop-name-test.true) in
    rw (c.in_ok-push.ensures.items) (record {
      keeps = keeps_trans a b d i.keeps e.keeps;
      quiet = quiet_trans a b d i.quiet e.quiet;
      read = rw (names, map_push source_for so_far source)
          (read_turn a b (map (λ (n : Bor (List ℕ)). n.now) (take k all)) (map source_for so_far) item.now (source_for source) i.keeps i.read e.read);
    })

pub returns-in_err-source-clause-refused : goal.returns-in_err-source-clause-refused
returns-in_err-source-clause-refused g c =
    let state = g.F.Files.state in
    let a = state c.args.files.now in
    let b = state c.loop-name.files in
    let d = state c.read_file.new.files in
    let i = c.loop-name.invariant in
    let p = err_from_is_err_and c.from_residual.result c.from_residual.ensures.1 in
    let all = c.args.names.now in
    let k = c.loop-name.name-index in
    let none : Bor (List ℕ) = record { ref_ptr = (0, 0); now = [] } in
    let item = get_or all k none in
    let now = λ (n : Bor (List ℕ)). n.now in
    let split = mapped_parted (λ (n : Bor (List ℕ)). n.now) all k item c.loop-name-test.true (same_item all k none item c.loop-name-test.true) in
    rw (p.1, p.2) (read_halt a b d (map (λ (n : Bor (List ℕ)). n.now) all) (map (λ (n : Bor (List ℕ)). n.now) (take k all)) (map (λ (n : Bor (List ℕ)). n.now) (drop (k + 1) all))
    (map source_for c.loop-name.sources.items) item.now c.in_err-source.field-0.0 split i.keeps i.quiet i.read c.in_err-source.ensures.refused)
