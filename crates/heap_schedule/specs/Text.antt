-- The text of a schedule: lines that each end with LF. The first makes the heap.
use Rattle.std.specs.Prelude.{◌≡◌, ⊤, ℕ, suc, List, [], ◌∷◌, Option, None, Some, Result, Ok, Err, map}
use Rattle.std.specs.Prelude.{option_and_then}
use Rattle.std.proofs.Common.{Vec, Global}
use Rattle.heap_schedule.specs.declared.line.Line.{Line}
use Rattle.heap_schedule.specs.declared.line.Making.{Making}
use Rattle.heap_schedule.specs.declared.schedule.Schedule.{Schedule}
use Rattle.heap_schedule.specs.declared.text.TextStop.{TextStop}
use Rattle.heap_schedule.specs.declared.text.TextStop.TheVariants as stop
use Rattle.heap_schedule.specs.Fields.{line_fields, fields_between}
use Rattle.heap_schedule.specs.Lines.{Turn, line_of, making_of, turn_named}

abbrev pub turn_in : List ℕ → Option Turn
turn_in line = option_and_then line_of (line_fields line)

abbrev pub making_in : List ℕ → Option Making
making_in line = option_and_then making_of (line_fields line)

-- the lines, or the number of the first one that is not of the form
pub data ScheduleLines : Type 0 where
  turns : List Turn → ScheduleLines
  refused : ℕ → ScheduleLines

abbrev pub onto : Turn → ScheduleLines → ScheduleLines
onto t (turns ts) = turns (t ∷ ts)
onto t (refused k) = refused k

abbrev pub turn_then : ℕ → Option Turn → ScheduleLines → ScheduleLines
turn_then k None rest = refused k
turn_then k (Some t) rest = onto t rest

-- what follows the last LF is a line without an end, and there is to be none
abbrev pub open_line : ℕ → List ℕ → ScheduleLines
open_line k [] = turns []
open_line k (c ∷ cs) = refused k

-- the lines from the k-th on
abbrev pub lines_from : ℕ → List (List ℕ) → ScheduleLines
lines_from k [] = turns []
lines_from k (p ∷ []) = open_line k p
lines_from k (p ∷ q ∷ ps) = turn_then k (turn_in p) (lines_from (suc k) (q ∷ ps))

-- a schedule, or the number of the first line that is not of the form
pub data Reading : Type 0 where
  reads : Making → List Turn → Reading
  refuses : ℕ → Reading

abbrev pub lines_after : Making → ScheduleLines → Reading
lines_after m (turns ts) = reads m ts
lines_after m (refused k) = refuses k

abbrev pub made_then : Option Making → ScheduleLines → Reading
made_then None rest = refuses 1
made_then (Some m) rest = lines_after m rest

abbrev pub schedule_by : List (List ℕ) → Reading
schedule_by [] = refuses 1
schedule_by (p ∷ []) = refuses 1
schedule_by (p ∷ q ∷ ps) = made_then (making_in p) (lines_from 2 (q ∷ ps))

-- the line feed
abbrev pub schedule_of : List ℕ → Reading
schedule_of text = schedule_by (fields_between 10 text)

-- ---- results

abbrev pub turns_of : Schedule → List Turn
turns_of s = map turn_named s.lines.items

abbrev pub GivesSchedule : Result Schedule TextStop → Reading → Type 0
GivesSchedule (Ok s) wanted = wanted ≡ reads s.making (turns_of s)
GivesSchedule (Err (stop.Refused k)) wanted = wanted ≡ refuses k
GivesSchedule (Err stop.Memory) wanted = ⊤

abbrev pub GivesLines : Result (Vec Line Global) TextStop → ScheduleLines → Type 0
GivesLines (Ok lines) wanted = wanted ≡ turns (map turn_named lines.items)
GivesLines (Err (stop.Refused k)) wanted = wanted ≡ refused k
GivesLines (Err stop.Memory) wanted = ⊤
