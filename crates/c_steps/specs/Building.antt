-- What a text that C builds up has, and what calls on it answer and leave.
use Rattle.std.specs.Prelude.{◌≡◌, ◌≢◌, ◌⊎◌, ℕ, ◌+◌, ◌*◌, ◌<◌, ◌≤◌, List, [], ◌++◌, length, Option, None}
use Rattle.std.specs.Prelude.{Some, Result, Ok, Err}
use Rattle.heap_rule.specs.Layout.{MAX}
use Rattle.heap_build.specs.declared.builder.Builder.{Builder}
use Rattle.heap_build.specs.declared.faults.BuildFault.{BuildFault}
use Rattle.heap_build.specs.declared.faults.BuildFault.TheVariants.{NoMemory, TooLong}
use Rattle.heap_build.specs.declared.faults.DecodeFault.{DecodeFault}
use Rattle.heap_build.specs.declared.faults.DecodeFault.TheVariants.{Malformed, NotAdded}
use Rattle.heap_build.specs.Built.{room_in, units_so_far}
use Rattle.heap_build.specs.Spelled.{IsSpellingUpTo}
use Rattle.c_steps.specs.declared.answer.JsAnswer.{JsAnswer}
use Rattle.c_steps.specs.declared.builder.JsBuilder.{JsBuilder}
use Rattle.c_steps.specs.Decoded.{fault_answer}
use Rattle.c_steps.specs.Reports.{DONE, NO_MEMORY, TOO_LONG, refusal}

-- the units so far; a handle that is zero has none
abbrev pub text_so_far : Option Builder → List ℕ
text_so_far None = []
text_so_far (Some b) = units_so_far b

-- how many units there is room for without further memory
abbrev pub room : Option Builder → ℕ
room None = 0
room (Some b) = room_in b

-- `live` is 0 where the handle has no text yet, and more where it has one; `len` is how many units the text
-- has
abbrev pub HasText : ℕ → ℕ → Option Builder → Type 0
HasText live n None = (live ≡ 0) × (n ≡ 0)
HasText live n (Some b) = (0 < live) × (n ≡ length (units_so_far b))

-- a handle is zero, or has a text
abbrev pub IsBuilder : JsBuilder → Type 0
IsBuilder h = HasText h.live h.len h.at.value

-- the text has no memory yet, or has no room for units that a string may have
abbrev pub OutgrowsRoom : Option Builder → List ℕ → Type 0
OutgrowsRoom None us = Unit {0}
OutgrowsRoom (Some b) us = (length (units_so_far b) + length us ≤ MAX)
    × (room_in b < length (units_so_far b) + length us)

-- units were added to a text; or nothing was, since memory runs out, or a string may not be so long
abbrev pub AddsTo : Option Builder → Option Builder → List ℕ → Result (Unit {0}) BuildFault → Type 0
AddsTo o p us (Ok u) = (text_so_far p ≡ text_so_far o ++ us) × (length (text_so_far o) + length us ≤ MAX)
AddsTo o p us (Err NoMemory) = (text_so_far p ≡ text_so_far o) × OutgrowsRoom o us
AddsTo o p us (Err TooLong) = (text_so_far p ≡ text_so_far o) × (MAX < length (text_so_far o) + length us)

-- the status of such a call
abbrev pub build_status : Result (Unit {0}) BuildFault → ℕ
build_status (Ok u) = DONE
build_status (Err NoMemory) = NO_MEMORY
build_status (Err TooLong) = TOO_LONG

-- units were added, or weren't, with such a status, and room that the text had it still has
abbrev pub AddsToText : Option Builder → Option Builder → List ℕ → ℕ → Type 0
AddsToText o p us status = (t : Result (Unit {0}) BuildFault) × (status ≡ build_status t) × AddsTo o p us t
    × (room o ≤ room p)

-- The units that bytes spell were added to a text; or nothing was, since they spell none, or for one of those
-- reasons. More than three bytes for each unit that a string may have are too long whatever they spell.
abbrev pub AddsSpelledTo : (List ℕ → List ℕ → Type 0) → Option Builder → Option Builder → List ℕ
    → Result (Unit {0}) DecodeFault → Type 0
AddsSpelledTo Spells o p bytes (Ok u) = (us : List ℕ) × Spells bytes us × AddsTo o p us (Ok u)
AddsSpelledTo Spells o p bytes (Err (Malformed at)) = (text_so_far p ≡ text_so_far o)
    × IsSpellingUpTo Spells bytes at
AddsSpelledTo Spells o p bytes (Err (NotAdded f)) = ((us : List ℕ) × Spells bytes us × AddsTo o p us (Err f))
    ⊎ (((f ≡ TooLong) × (3 * MAX < length bytes) × (text_so_far p ≡ text_so_far o))
    ⊎ ((f ≡ NoMemory) × (o ≡ None) × (p ≡ o)))

-- what such a call answers
abbrev pub decoded_answer : Result (Unit {0}) DecodeFault → JsAnswer
decoded_answer (Ok u) = refusal DONE 0 0 0
decoded_answer (Err f) = fault_answer f

-- the units that bytes spell were added, or weren't, with such an answer, and room is still there
abbrev pub BuildsSpelled : (List ℕ → List ℕ → Type 0) → Option Builder → Option Builder → List ℕ → JsAnswer
    → Type 0
BuildsSpelled Spells o p bytes r = (t : Result (Unit {0}) DecodeFault) × (r ≡ decoded_answer t)
    × AddsSpelledTo Spells o p bytes t × (room o ≤ room p)

-- what becomes of a text whose units were to become a string: it is empty then, and keeps its memory; where
-- the call was refused, it stays
abbrev pub EmptiesText : Option Builder → Option Builder → ℕ → Type 0
EmptiesText o p status = (status ≡ DONE → (text_so_far p ≡ []) × (room p ≡ room o)) × (status ≢ DONE → p ≡ o)

-- the text that a handle has, or an empty one that was made for it
abbrev pub IsOpened : Option Builder → Builder → Type 0
IsOpened None b = units_so_far b ≡ []
IsOpened (Some x) b = x ≡ b
