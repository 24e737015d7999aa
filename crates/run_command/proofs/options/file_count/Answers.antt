use Rattle.std.proofs.Common.{Bor, List, ℕ, ap, sym, ◌∙◌, length, map}
use Rattle.std.proofs.lemmas.List.{length-map}
use Rattle.clap.specs.Words.{found_of}
use Rattle.run_command.proofs.Asking.{files_are, no_files}
use Rattle.run_command.proofs.options.file_count.Goals as goal

pub returns-in-Some : goal.returns-in-Some
returns-in-Some c =
    let is = files_are (found_of c.args.matches.now) (map (λ (n : Bor (List ℕ)). n.now) c.in-Some.files.now) c.in-Some.ensures in
    sym (ap length is ∙ length-map c.in-Some.files.now (λ (n : Bor (List ℕ)). n.now))

pub returns-in-None : goal.returns-in-None
returns-in-None c = sym (ap length (no_files (found_of c.args.matches.now) c.in-None.ensures))
