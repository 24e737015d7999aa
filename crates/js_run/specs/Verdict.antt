-- What becomes of a call, and what is reported of it: the status and the bytes for each sink.
use Rattle.std.specs.Option.{option_map_or}
use Rattle.std.specs.Prelude.{ℕ, List, [], ◌∷◌, ◌++◌, codes, decimal, map, Option, None, Some}
use Rattle.std.specs.Prelude.{option_to_list, flat_map}
use Rattle.js_io.specs.Report.{Report, Refusal, Printed}
use Rattle.js_parse.specs.declared.fault.ParseFault.{ParseFault}
use Rattle.js_store.specs.declared.faults.FullReport.{FullReport}
use Rattle.js_store.specs.declared.faults.FullReport.TheVariants.{Ids, Words, Slots}
use Rattle.eval_values.specs.declared.value.Kind.{Kind}
use Rattle.eval_values.specs.declared.value.Kind.TheVariants.{RangeError, TypeError, ReferenceError, UriError}
use Rattle.js_eval.specs.declared.ending.End.{End}
use Rattle.js_eval.specs.declared.ending.End.TheVariants.{Done, Threw, Unsupported, Full, Memory}
use Rattle.run_sources.specs.Program.{FileName, Program, in_order}
use Rattle.run_program.specs.Kept.{HeapKept}
use Rattle.run_program.specs.declared.ran.Ran.{Ran}
use Rattle.js_parse.specs.Faults.{fault_report}

-- what becomes of a call: the arguments are refused, a file can't be read or is too large, a source is
-- refused, memory runs out, or files were run
pub data Verdict : Type 0 where
  BadWords : Verdict
  NotRead TooLarge : FileName → Verdict
  Refused : FileName → ParseFault → Verdict
  NoMemory : Verdict
  -- files of these names were run
  WasRun : Program FileName → Ran → Verdict

-- ---- what was run

-- how all files ended that were run, the prelude first
abbrev pub ends_of : Ran → List End
ends_of ran = map (λ o. o.end) (option_to_list ran.prelude ++ ran.scripts.items)

-- the line of the number of different strings, where they were counted
abbrev pub count_line : Option ℕ → List ℕ
count_line counted = option_map_or (λ count. codes "interned " ++ (decimal count ++ 10 ∷ [])) counted []

-- the bytes for out: what the scripts printed, and the line of the number of different strings
abbrev pub out_of : Ran → List ℕ
out_of ran = flat_map (λ o. o.lines) ran.scripts.items ++ count_line ran.interned

-- ---- the line of a file that didn't end Done

-- what is reported of an error that nothing caught
abbrev pub kind_text : Kind → List ℕ
kind_text RangeError = codes ": uncaught RangeError\n"
kind_text TypeError = codes ": uncaught TypeError\n"
kind_text ReferenceError = codes ": uncaught ReferenceError\n"
kind_text UriError = codes ": uncaught URIError\n"

-- what is reported of what had run out on the heap
abbrev pub full_text : FullReport → List ℕ
full_text (Ids at want end) = codes ": heap full: ids\n"
full_text (Words at want end) = codes ": heap full: words\n"
full_text (Slots slots) = codes ": heap full: slots\n"

-- the line of a file that ended so; none where it ended Done
abbrev pub end_line : FileName → End → List ℕ
end_line name Done = []
end_line name (Threw kind) = name ++ kind_text kind
end_line name (Unsupported at) = name ++ (codes ": unsupported at " ++ (decimal at ++ 10 ∷ []))
end_line name (Full report) = name ++ full_text report
end_line name Memory = name ++ codes ": out of memory\n"

-- the lines of files of these names with these ends, in order
abbrev pub end_lines : List FileName → List End → List ℕ
end_lines (name ∷ names) (e ∷ es) = end_line name e ++ end_lines names es
end_lines _ _ = []

-- the bytes for err: a line for each file that didn't end Done
abbrev pub err_of : Program FileName → Ran → List ℕ
err_of names ran = end_lines (in_order names) (ends_of ran)

-- ---- the status of the first file that didn't end Done, or 0

-- the status of a file that ended so, or that of later files where it ended Done
abbrev pub status_or : End → ℕ → ℕ
status_or Done later = later
status_or (Full report) later = 5
status_or Memory later = 6
status_or _ later = 1

-- the status by the ends of all files in their order
abbrev pub status_of : List End → ℕ
status_of [] = 0
status_of (e ∷ es) = status_or e (status_of es)

-- ---- the lines of refusals

-- the byte offset of the fault, and its message
abbrev pub refused_line : FileName → ParseFault → List ℕ
refused_line name fault = (name ++ (58 ∷ [] ++ (decimal (fault_report fault).0 ++ codes ": refused: ")))
    ++ ((fault_report fault).1 ++ 10 ∷ [])

-- the line where memory ran out before anything was run
abbrev pub memory_line : List ℕ
memory_line = codes "jsstr: out of memory\n"

-- ---- what is reported, and what is kept

-- what is reported of a verdict
abbrev pub report_of : Verdict → Report
report_of BadWords = Refusal 2 (codes "jsstr: the words are refused\n")
report_of (NotRead name) = Refusal 3 (name ++ codes ": cannot be read\n")
report_of (TooLarge name) = Refusal 3 (name ++ codes ": larger than 1048576 bytes\n")
report_of (Refused name fault) = Refusal 4 (refused_line name fault)
report_of NoMemory = Refusal 6 memory_line
report_of (WasRun names ran) = Printed (status_of (ends_of ran)) (out_of ran) (err_of names ran)

-- the heap and its agent, wherever files were run
abbrev pub kept_of : Verdict → Option HeapKept
kept_of (WasRun names ran) = Some ran.kept
kept_of _ = None
