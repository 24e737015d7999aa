-- What a source of files holds, and what its reads left behind.
use Rattle.std.specs.Prelude.{◌≡◌, ℕ, ◌<◌, List, length, None, Some, ⊤}
use Rattle.std.specs.declared.option.Option.{Option}
use Rattle.js_io.specs.Counts.{next_count}
use Rattle.js_io.specs.declared.files.TheConstants.{FILE_MAX}

-- these bytes are the file's, where its bytes are reported
abbrev pub IsToldAs : Option (List ℕ) → List ℕ → Type 0
IsToldAs None bytes = ⊤
IsToldAs (Some held) bytes = bytes ≡ held

-- the file is too large: by its bytes where they are reported, and then nothing is counted; or else one more
-- such file was counted
abbrev pub IsTooLarge : Option (List ℕ) → ℕ → ℕ → Type 0
IsTooLarge None before after = after ≡ next_count before
IsTooLarge (Some held) before after = (FILE_MAX < length held) × (after ≡ before)

-- a source of files at one moment: the bytes of each name where they are reported, how many reads failed,
-- how many files of hidden bytes were too large, and the name of the last read that failed or found too large
-- a file
pub record FilesState : Type 0 where
  pub held : List ℕ → Option (List ℕ)
  pub faults : ℕ
  pub oversize : ℕ
  pub blamed : List ℕ

-- a source that reports no bytes
abbrev pub untold_files : ℕ → ℕ → List ℕ → FilesState
untold_files faults oversize blamed =
    record { held = λ name. None; faults = faults; oversize = oversize; blamed = blamed }
