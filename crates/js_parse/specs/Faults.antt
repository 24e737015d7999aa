-- The report of the fault of a text that is no script.
use Rattle.std.specs.Prelude.{ℕ, List, codes}
use Rattle.js_lex.specs.Faults.{lexical_report}
use Rattle.js_parse.specs.declared.fault.ParseFault.{ParseFault}
use Rattle.js_parse.specs.declared.fault.ParseFault.TheVariants as fault

-- the byte offset at which the fault is reported, 0 where memory ran out, and the message
abbrev pub fault_report : ParseFault → ℕ × List ℕ
fault_report (fault.Lex f) = lexical_report f
fault_report (fault.Unexpected at) = (at, codes "unexpected")
fault_report (fault.NotInProfile at) = (at, codes "not in profile")
fault_report (fault.TooDeep at) = (at, codes "too deep")
fault_report (fault.Duplicate at) = (at, codes "duplicate")
fault_report (fault.LoopName at) = (at, codes "loop name")
fault_report fault.Memory = (0, codes "out of memory")
