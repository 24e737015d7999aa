-- The answers to a page, as numbers.
use Rattle.std.specs.Prelude.{◌≡◌, ℕ, List, ◌++◌, length, take, drop, min, nat_eq, if◌then◌else◌}
use Rattle.js_eval.specs.declared.ending.End.{End}
use Rattle.js_eval.specs.declared.ending.End.TheVariants as end
use Rattle.eval_values.specs.declared.value.Kind.{Kind}
use Rattle.eval_values.specs.declared.value.Kind.TheVariants.{RangeError, TypeError, ReferenceError, UriError}
use Rattle.heap_rule.specs.declared.size.HeapSize.{HeapSize}
use Rattle.js_parse.specs.declared.fault.ParseFault.{ParseFault}
use Rattle.js_parse.specs.declared.fault.ParseFault.TheVariants.{Memory}
use Rattle.js_parse.specs.Faults.{fault_report}
use Rattle.js_store.specs.declared.faults.FullReport.TheVariants.{Ids, Words, Slots}
use Rattle.js_store.specs.declared.limit.Limit.{Limit}
use Rattle.js_store.specs.declared.limit.Limit.TheVariants.{Bits32, Bits64}
use Rattle.jsstr_web.specs.declared.answer.WebEnd.{WebEnd}
use Rattle.jsstr_web.specs.declared.answer.WebOptions.{WebOptions}

-- the sizes that a page gives
abbrev pub size_given : WebOptions → HeapSize
size_given o = record { ids = o.ids; words = o.words; slots = o.slots }

-- the limit of a string's length: 32 is the lower one, and all else the higher
abbrev pub limit_given : ℕ → Limit
limit_given n = if nat_eq n 32 then Bits32 else Bits64

abbrev pub limit_for : WebOptions → Limit
limit_for o = limit_given o.limit

-- a status alone
abbrev pub plain : ℕ → WebEnd
plain status = record { status = status; kind = 0; at = 0; want = 0; end = 0; statements = 0; length = 0 }

-- the number of a kind of error
abbrev pub kind_number : Kind → ℕ
kind_number RangeError = 0
kind_number TypeError = 1
kind_number ReferenceError = 2
kind_number UriError = 3

-- how a script of so many statements ended that printed so many bytes
abbrev pub told : End → ℕ → ℕ → WebEnd
told end.Done n l = record { status = 0; kind = 0; at = 0; want = 0; end = 0; statements = n; length = l }
told (end.Threw kind) n l =
    record { status = 1; kind = kind_number kind; at = 0; want = 0; end = 0; statements = n; length = l }
told (end.Unsupported at) n l =
    record { status = 2; kind = 0; at = at; want = 0; end = 0; statements = n; length = l }
told (end.Full (Ids at want end)) n l =
    record { status = 3; kind = 0; at = at; want = want; end = end; statements = n; length = l }
told (end.Full (Words at want end)) n l =
    record { status = 4; kind = 0; at = at; want = want; end = end; statements = n; length = l }
told (end.Full (Slots slots)) n l =
    record { status = 5; kind = 0; at = 0; want = 0; end = slots; statements = n; length = l }
told end.Memory n l = record { status = 6; kind = 0; at = 0; want = 0; end = 0; statements = n; length = l }

-- a text is no script, or memory ran out while it was read
abbrev pub fault_status : ParseFault → ℕ
fault_status Memory = 10
fault_status _ = 7

-- the place of the fault, and how long its message is
abbrev pub fault_told : ParseFault → WebEnd
fault_told f = record {
  status = fault_status f;
  kind = 0;
  at = (fault_report f).0;
  want = 0;
  end = 0;
  statements = 0;
  length = length (fault_report f).1;
}

-- the room begins with as many of the bytes as it has places, and is as before behind them
abbrev pub BeginsWith : List ℕ → List ℕ → List ℕ → Type 0
BeginsWith bytes before after = let count = min (length bytes) (length before) in
    after ≡ take count bytes ++ drop count before
