-- How a call ends: why, with which status, and what each sink received.
use Rattle.std.specs.Prelude.{◌≡◌, ◌⊎◌, ℕ, ◌+◌, ◌≤◌, ◌==◌, not, if◌then◌else◌, List, [], ◌∷◌, ◌++◌, codes}
use Rattle.std.specs.Prelude.{decimal, length, slice_index, take, Option, None, Some}
use Rattle.js_io.specs.Counts.{next_count}
use Rattle.js_io.specs.declared.files.TheConstants.{FILE_MAX}
use Rattle.js_io.specs.FilesState.{FilesState, IsTooLarge, IsToldAs}
use Rattle.js_io.specs.Report.{Report, Refusal, Printed, Sinks, IsEnd}
use Rattle.heap_schedule.specs.declared.line.Making.{Making}
use Rattle.heap_schedule.specs.Lines.{Turn}
use Rattle.heap_schedule.specs.Text.{reads, refuses, schedule_of}
use Rattle.heap_schedule.specs.Play.{all_played, machine_made, words_for}
use Rattle.heap_schedule.specs.Kept.{WasPlayed}
use Rattle.heap_schedule.specs.Shown.{shown_lines}

-- the program's name and one word that doesn't begin with `-`
abbrev pub file_by : List ℕ → Option (List ℕ)
file_by name = if slice_index name 0 == 45 then None else Some name

abbrev pub file_in : List (List ℕ) → Option (List ℕ)
file_in (program ∷ name ∷ []) = file_by name
file_in _ = None

pub data PlayVerdict : Type 0 where
  bad_words : PlayVerdict
  not_read : List ℕ → PlayVerdict
  too_large : List ℕ → PlayVerdict
  not_of_form : ℕ → PlayVerdict
  no_memory : PlayVerdict
  -- what the first line makes, the lines behind it, and how many of these were played
  was_played : Making → List Turn → ℕ → PlayVerdict

-- no read failed, and none found too large a file
abbrev pub HasNoReadFault : FilesState → FilesState → Type 0
HasNoReadFault old new = (new.faults ≡ old.faults) × (new.oversize ≡ old.oversize)

-- the file of this name was read, which isn't too large; its bytes are these where they are reported
pub record IsFileRead (name : List ℕ) (old new : FilesState) (text : List ℕ) : Type 0 where
  pub bytes : IsToldAs (old.held name) text
  pub small : length text ≤ FILE_MAX
  pub quiet : HasNoReadFault old new

abbrev pub WasRead : List (List ℕ) → FilesState → FilesState → List ℕ → Type 0
WasRead words old new text = (name : List ℕ) × (file_in words ≡ Some name) × IsFileRead name old new text

abbrev pub HasPlayCause : List (List ℕ) → FilesState → FilesState → PlayVerdict → Type 0
HasPlayCause words old new bad_words = (file_in words ≡ None) × HasNoReadFault old new
HasPlayCause words old new (not_read name) =
    (file_in words ≡ Some name) × (new.faults ≡ next_count old.faults) × (new.blamed ≡ name)
HasPlayCause words old new (too_large name) =
    (file_in words ≡ Some name) × IsTooLarge (old.held name) old.oversize new.oversize
    × (new.faults ≡ old.faults) × (new.blamed ≡ name)
HasPlayCause words old new (not_of_form k) =
    (text : List ℕ) × WasRead words old new text × (schedule_of text ≡ refuses k)
HasPlayCause words old new no_memory = (name : List ℕ) × (file_in words ≡ Some name) × HasNoReadFault old new
HasPlayCause words old new (was_played m ts n) = (text : List ℕ) × WasRead words old new text
    × (schedule_of text ≡ reads m ts) × WasPlayed ts (machine_made m) n

abbrev pub play_status : ℕ → ℕ → ℕ
play_status lines n = if n == lines then 0 else 1

-- the first line that isn't enabled, behind the n that were played and the first
abbrev pub stop_line : ℕ → ℕ → List ℕ
stop_line lines n = if n == lines then [] else decimal (n + 2) ++ codes ": not enabled\n"

abbrev pub play_report : PlayVerdict → Report
play_report bad_words = Refusal 2 (codes "jssched: the words are refused\n")
play_report (not_read name) = Refusal 3 (name ++ codes ": cannot be read\n")
play_report (too_large name) = Refusal 3 (name ++ codes ": larger than 1048576 bytes\n")
play_report (not_of_form k) = Refusal 4 (decimal k ++ codes ": refused\n")
play_report no_memory = Refusal 6 (codes "jssched: out of memory\n")
play_report (was_played m ts n) = Printed (play_status (length ts) n)
    (shown_lines (all_played (take n ts) (machine_made m)) (words_for (take n ts) (machine_made m)))
    (stop_line (length ts) n)

-- a call came to a verdict for a cause of its kind, and what was written is what is reported of it
pub record PlayOutcome (words : List (List ℕ)) (old_files new_files : FilesState) (code : ℕ)
    (old new : Sinks) : Type 0 where
  pub verdict : PlayVerdict
  pub cause : HasPlayCause words old_files new_files verdict
  pub ending : IsEnd (play_report verdict) code old new

-- of a text that was read
abbrev pub IsOf : List ℕ → PlayVerdict → Type 0
IsOf text (not_of_form k) = schedule_of text ≡ refuses k
IsOf text no_memory = Unit {0}
IsOf text (was_played m ts n) = (schedule_of text ≡ reads m ts) × WasPlayed ts (machine_made m) n
IsOf text _ = ⊥

pub record TextOutcome (text : List ℕ) (code : ℕ) (old new : Sinks) : Type 0 where
  pub verdict : PlayVerdict
  pub cause : IsOf text verdict
  pub ending : IsEnd (play_report verdict) code old new

-- of a file of this name
abbrev pub CauseBy : List ℕ → FilesState → FilesState → PlayVerdict → Type 0
CauseBy name old new (not_read blamed) =
    (blamed ≡ name) × (new.faults ≡ next_count old.faults) × (new.blamed ≡ name)
CauseBy name old new (too_large blamed) =
    (blamed ≡ name) × IsTooLarge (old.held name) old.oversize new.oversize
    × (new.faults ≡ old.faults) × (new.blamed ≡ name)
CauseBy name old new (not_of_form k) =
    (text : List ℕ) × IsFileRead name old new text × (schedule_of text ≡ refuses k)
CauseBy name old new no_memory = HasNoReadFault old new
CauseBy name old new (was_played m ts n) = (text : List ℕ) × IsFileRead name old new text
    × (schedule_of text ≡ reads m ts) × WasPlayed ts (machine_made m) n
CauseBy name old new bad_words = ⊥

pub record FileOutcome (name : List ℕ) (old_files new_files : FilesState) (code : ℕ)
    (old new : Sinks) : Type 0 where
  pub verdict : PlayVerdict
  pub cause : CauseBy name old_files new_files verdict
  pub ending : IsEnd (play_report verdict) code old new

-- what a play came to: what is shown of it, and how many lines were played
abbrev pub IsShown : Making → List Turn → List ℕ → ℕ → Type 0
IsShown m ts bytes n = WasPlayed ts (machine_made m) n
    × (bytes ≡ shown_lines (all_played (take n ts) (machine_made m)) (words_for (take n ts) (machine_made m)))
