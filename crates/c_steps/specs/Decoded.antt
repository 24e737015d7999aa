-- Why bytes give no units.
use Rattle.heap_build.specs.declared.faults.BuildFault.TheVariants.{NoMemory, TooLong}
use Rattle.heap_build.specs.declared.faults.DecodeFault.{DecodeFault}
use Rattle.heap_build.specs.declared.faults.DecodeFault.TheVariants.{Malformed, NotAdded}
use Rattle.c_steps.specs.declared.answer.JsAnswer.{JsAnswer}
use Rattle.c_steps.specs.Reports.{TOO_LONG, no_memory, not_utf8, refusal}

-- why no units were decoded; where bytes spell none, how many of them do
abbrev pub fault_answer : DecodeFault → JsAnswer
fault_answer (Malformed at) = not_utf8 at
fault_answer (NotAdded NoMemory) = no_memory
fault_answer (NotAdded TooLong) = refusal TOO_LONG 0 0 0
