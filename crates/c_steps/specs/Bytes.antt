-- What an answer says of a string that was written as bytes.
use Rattle.std.specs.Prelude.{◌≡◌, ℕ, ◌==◌, if◌then◌else◌, List, Option, Result, Ok, Err}
use Rattle.heap_export.specs.declared.faults.Unpaired.{Unpaired}
use Rattle.heap_export.specs.declared.faults.Unpaired.TheVariants.{Replace, Refuse, Keep}
use Rattle.heap_export.specs.declared.faults.WriteFault.{WriteFault}
use Rattle.heap_export.specs.declared.faults.WriteFault.TheVariants.{NoRoom, Unmapped}
use Rattle.heap_export.specs.Encoded.{IsEncodedInto}
use Rattle.c_steps.specs.declared.bytes.JsBytes.{JsBytes}
use Rattle.c_steps.specs.Reports.{DONE}

-- there is no room for all bytes
abbrev pub NO_ROOM : ℕ
NO_ROOM = 10

-- a unit has no bytes
abbrev pub UNMAPPED : ℕ
UNMAPPED = 11

-- what becomes of an unpaired surrogate, by its number in C
abbrev pub unpaired_by : ℕ → Unpaired
unpaired_by n = if n == 0 then Replace else (if n == 1 then Refuse else Keep)

-- how many bytes were written, how many are needed, or the place of the unit that has none
abbrev pub bytes_answer : Result ℕ WriteFault → JsBytes
bytes_answer (Ok n) = record { status = DONE; at = 0; size = n }
bytes_answer (Err (NoRoom n)) = record { status = NO_ROOM; at = 0; size = n }
bytes_answer (Err (Unmapped at)) = record { status = UNMAPPED; at = at; size = 0 }

-- a refusal by its status alone
abbrev pub no_bytes : ℕ → JsBytes
no_bytes status = record { status = status; at = 0; size = 0 }

-- these bytes were written into a list, unless there is such a place, with r as the answer
abbrev pub IsGiven : Option ℕ → List ℕ → List ℕ → List ℕ → JsBytes → Type 0
IsGiven place bs old new r = (t : Result ℕ WriteFault) × (r ≡ bytes_answer t)
    × IsEncodedInto place bs old new t
