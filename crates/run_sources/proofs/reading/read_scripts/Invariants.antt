use Rattle.std.proofs.Common.{map, take}
use Rattle.run_sources.specs.Answers.{source_for}
use Rattle.run_sources.specs.Reading.{IsQuiet, KeepsFiles, Read}
use Rattle.run_sources.proofs.reading.read_scripts.Given as goal

-- the files so far were read
abbrev pub invariant-loop-name : goal.invariant-loop-name
invariant-loop-name g l =
    let state = g.F.Files.state in
    record {
      keeps : KeepsFiles (state l.fn.files) (state l.files);
      quiet : IsQuiet (state l.fn.files) (state l.files);
      read : Read (state l.fn.files).held (map (λ n. n.now) (take l.name-index l.names)) (map source_for l.sources.items);
    }
