-- Files in memory, the newest first.
use Rattle.std.specs.Prelude.{◌≡◌, ℕ, Bool, List, [], ◌∷◌, None, Some, if◌then◌else◌}
use Rattle.std.specs.declared.option.Option.{Option}
use Rattle.std.specs.String.{string_bytes}
use Rattle.std.specs.List.{list_any}
use Rattle.std.specs.Cmp.Lexicographic.{pointwise}
use Rattle.std.specs.Bool.{nat_eq}
use Rattle.js_io.specs.FilesState.{FilesState}
use Rattle.js_io.specs.declared.mem_files.MemFile.{MemFile}
use Rattle.js_io.specs.declared.mem_files.MemFiles.{MemFiles}

-- the bytes of the newest file of this name
abbrev pub newest_of : List MemFile → List ℕ → Option (List ℕ)
newest_of [] name = None
newest_of (file ∷ files) name = if pointwise nat_eq (string_bytes file.name) name then Some file.bytes.items
    else newest_of files name

-- a source that reports the bytes of its files
abbrev pub told_files : List MemFile → ℕ → List ℕ → FilesState
told_files files faults blamed = record
    { held = newest_of files; faults = faults; oversize = 0; blamed = blamed }

abbrev pub mem_files_state : MemFiles → FilesState
mem_files_state files = told_files files.files.items files.faults (string_bytes files.blamed)

abbrev pub held_in : MemFiles → List ℕ → Option (List ℕ)
held_in files name = newest_of files.files.items name

-- how many reads have failed
abbrev pub faults_in : MemFiles → ℕ
faults_in files = files.faults

-- the name of the last read that failed or found too large a file
abbrev pub blamed_in : MemFiles → List ℕ
blamed_in files = string_bytes files.blamed

-- how many times `read` was called, also in vain
abbrev pub calls_in : MemFiles → ℕ
calls_in files = files.calls

-- the calls of `read` that are to fail, counted from 0
abbrev pub failing_in : MemFiles → List ℕ
failing_in files = files.failing.items

-- this call is among them
abbrev pub is_call_among : List ℕ → ℕ → Bool
is_call_among failing call = list_any (λ n. nat_eq n call) failing

-- the bytes that a call of `read` finds: none where it is to fail, or where there is no such file
abbrev pub found_at : List MemFile → List ℕ → ℕ → List ℕ → Option (List ℕ)
found_at files failing call name = if is_call_among failing call then None else newest_of files name

-- a read of this name fails: its call is to fail, or there is no such file
abbrev pub ReadFails : MemFiles → List ℕ → Type 0
ReadFails files name = found_at files.files.items files.failing.items files.calls name ≡ None
