-- The numbers of refusals, and what an answer says of each.
use Rattle.std.specs.Prelude.{ℕ, ℤ, pos, negsuc, Option, Some, None, Result, Ok, Err, false}
use Rattle.std.specs.declared.cmp.Ordering.{Ordering}
use Rattle.std.specs.declared.cmp.Ordering.TheVariants.{Less, Equal, Greater}
use Rattle.heap_read.specs.declared.string.JsStr.{JsStr}
use Rattle.heap_text.specs.declared.faults.JoinFault.{JoinFault}
use Rattle.heap_text.specs.declared.faults.JoinFault.TheVariants.{TooLong, Full}
use Rattle.heap_text.specs.declared.faults.TextFull.{TextFull}
use Rattle.heap_text.specs.declared.faults.TextFull.TheVariants.{Ids, Words}
use Rattle.heap_intern.specs.declared.table.faults.TableFull.{TableFull}
use Rattle.heap_intern.specs.declared.table.faults.TableFull.TheVariants as table
use Rattle.heap_rule.specs.declared.size.HeapSize.{HeapSize}
use Rattle.heap_reserve.specs.declared.faults.ReserveFault.{ReserveFault}
use Rattle.heap_reserve.specs.declared.faults.ReserveFault.TheVariants as reserve
use Rattle.c_steps.specs.declared.answer.JsAnswer.{JsAnswer}
use Rattle.c_steps.specs.declared.answer.JsNumber.{JsNumber}
use Rattle.c_steps.specs.declared.answer.JsOrder.{JsOrder}
use Rattle.c_steps.specs.declared.answer.JsPlace.{JsPlace}
use Rattle.c_steps.specs.declared.answer.JsSize.{JsSize}
use Rattle.c_steps.specs.declared.answer.JsTotals.{JsTotals}
use Rattle.c_steps.specs.declared.answer.JsTruth.{JsTruth}
use Rattle.c_steps.specs.declared.answer.JsWords.{JsWords}
use Rattle.agent_reads.specs.declared.words.Shown.{Shown}

-- the call is done
abbrev pub DONE : ℕ
DONE = 0

-- memory runs out
abbrev pub NO_MEMORY : ℕ
NO_MEMORY = 1

-- a size, the number of agents or the limit is out of its range
abbrev pub BAD_SIZE : ℕ
BAD_SIZE = 2

-- the ids don't suffice
abbrev pub NO_IDS : ℕ
NO_IDS = 3

-- the content words don't suffice
abbrev pub NO_WORDS : ℕ
NO_WORDS = 4

-- every slot of the string table is used
abbrev pub NO_SLOTS : ℕ
NO_SLOTS = 5

-- two strings are longer together than the limit
abbrev pub TOO_LONG : ℕ
TOO_LONG = 6

-- there is no such place, or no such string
abbrev pub NONE : ℕ
NONE = 7

-- the bytes are no UTF-8
abbrev pub NOT_UTF8 : ℕ
NOT_UTF8 = 8

-- the condition of the call doesn't hold
abbrev pub BAD_ARGUMENT : ℕ
BAD_ARGUMENT = 9

-- a number that no string has
abbrev pub NO_STRING : ℕ
NO_STRING = 4294967295

-- the call is done, with this string
abbrev pub done : ℕ → JsAnswer
done id = record { status = DONE; id = id; at = 0; want = 0; end = 0 }

-- no string, and the status with its numbers
abbrev pub refusal : ℕ → ℕ → ℕ → ℕ → JsAnswer
refusal status at want end = record { status = status; id = NO_STRING; at = at; want = want; end = end }

-- a counter was full: its number, what was requested and its end
abbrev pub text_report : TextFull → JsAnswer
text_report (Ids f) = refusal NO_IDS f.at f.want f.end
text_report (Words f) = refusal NO_WORDS f.at f.want f.end

-- the lengths of two strings that are too long together, or a full counter
abbrev pub join_report : JoinFault → JsAnswer
join_report (TooLong left right) = refusal TOO_LONG left right 0
join_report (Full f) = text_report f

-- the string, or the full counter
abbrev pub text_answer : Result JsStr TextFull → JsAnswer
text_answer (Ok s) = done s.id
text_answer (Err f) = text_report f

-- the string, or why two strings weren't joined
abbrev pub join_answer : Result JsStr JoinFault → JsAnswer
join_answer (Ok s) = done s.id
join_answer (Err f) = join_report f

-- a full counter, or a string table that is full: the number of its slots
abbrev pub table_report : TableFull → JsAnswer
table_report (table.Ids f) = refusal NO_IDS f.at f.want f.end
table_report (table.Words f) = refusal NO_WORDS f.at f.want f.end
table_report (table.Slots n) = refusal NO_SLOTS 0 0 n

-- the interned string, or what was full
abbrev pub table_answer : Result ℕ TableFull → JsAnswer
table_answer (Ok i) = done i
table_answer (Err f) = table_report f

-- no string of the table has these units, and nothing else is reported
abbrev pub not_interned : JsAnswer
not_interned = refusal NONE 0 0 0

-- the interned string, or that there is none
abbrev pub found_answer : Option ℕ → JsAnswer
found_answer (Some i) = done i
found_answer None = not_interned

-- memory runs out, and nothing else is reported
abbrev pub no_memory : JsAnswer
no_memory = refusal NO_MEMORY 0 0 0

-- what was to be claimed in advance was, and no string is answered; or what ran out
abbrev pub reserve_answer : Result (Unit {0}) ReserveFault → JsAnswer
reserve_answer (Ok u) = refusal DONE 0 0 0
reserve_answer (Err reserve.Memory) = no_memory
reserve_answer (Err (reserve.Full f)) = text_report f

-- the bytes stop to be UTF-8 at this place
abbrev pub not_utf8 : ℕ → JsAnswer
not_utf8 n = refusal NOT_UTF8 n 0 0

-- the sizes that C gives, as those of a heap
abbrev pub size_for : JsSize → HeapSize
size_for z = record { ids = z.ids; words = z.words; slots = z.slots }

-- the condition of the call doesn't hold
abbrev pub bad_argument : JsAnswer
bad_argument = refusal BAD_ARGUMENT 0 0 0

-- the order as C has it: -1, 0 or 1
abbrev pub order_number : Ordering → ℤ
order_number Less = negsuc 0
order_number Equal = pos 0
order_number Greater = pos 1

abbrev pub order_answer : Ordering → JsOrder
order_answer o = record { status = DONE; order = order_number o }

-- a refusal, with no order
abbrev pub no_order : ℕ → JsOrder
no_order status = record { status = status; order = pos 0 }

-- a refusal, with nothing that holds
abbrev pub no_truth : ℕ → JsTruth
no_truth status = record { status = status; holds = false }

-- a refusal, with no place
abbrev pub no_place : ℕ → JsPlace
no_place status = record { status = status; at = 0 }

-- the place, or that there is none
abbrev pub place_answer : Option ℕ → JsPlace
place_answer (Some k) = record { status = DONE; at = k }
place_answer None = no_place NONE

-- a refusal, with no counts
abbrev pub no_totals : ℕ → JsTotals
no_totals status = record { status = status; ids = 0; words = 0 }

-- a refusal, with no number
abbrev pub no_number : ℕ → JsNumber
no_number status = record { status = status; value = 0 }

-- the number, or that there is none
abbrev pub number_answer : Option ℕ → JsNumber
number_answer (Some n) = record { status = DONE; value = n }
number_answer None = no_number NONE

-- what is shown, and what an answer says of it
abbrev pub words_answer : Shown → JsWords
words_answer r = record { status = DONE; wide = r.wide; lane = r.lane; len = r.len; count = r.count }

-- what an answer says of the words of a string
abbrev pub shown_by : JsWords → Shown
shown_by r = record { wide = r.wide; lane = r.lane; len = r.len; count = r.count }

-- a refusal, with nothing shown
abbrev pub no_words : ℕ → JsWords
no_words status = record { status = status; wide = false; lane = 0; len = 0; count = 0 }
