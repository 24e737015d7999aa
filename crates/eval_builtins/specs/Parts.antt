-- Helpers: no public contract reaches these definitions.
-- Parts of what built-in functions give, by names, for the contracts of private functions and for proofs.
use Rattle.std.specs.Prelude.{ℕ, List, length, codes, ◌++◌}
use Rattle.js_number.specs.declared.Num.{Num}
use Rattle.js_item.specs.Contents.{Fields, list, object, symbol, text}
use Rattle.js_item.specs.Seen.{Val}
use Rattle.eval_values.specs.Outcome.{Out, gave, interning, converts, needing}
use Rattle.eval_values.specs.Need.{reads}
use Rattle.eval_values.specs.Conversions.{to_number}
use Rattle.eval_values.specs.Limited.{bounded}
use Rattle.eval_builtins.specs.Codes.{from_row}
use Rattle.eval_builtins.specs.Keys.{keys_call}
use Rattle.eval_builtins.specs.Quoting.{stringify_call}

-- "SymbolDescriptiveString"
abbrev pub shown_symbol : List ℕ → List ℕ
shown_symbol k = codes "Symbol(" ++ (k ++ codes ")")

-- an array of the own keys
abbrev pub keys_out : Fields (List ℕ) → Out Val
keys_out fs = keys_call 0 (object fs)

-- an array of these strings as JSON text
abbrev pub list_json : ℕ → List (List ℕ) → Out Val
list_json limit us = stringify_call limit (list us)

-- an object as JSON text
abbrev pub stringified_object : ℕ → Fields (List ℕ) → Out Val
stringified_object limit fs = stringify_call limit (object fs)

-- a symbol as a string
abbrev pub shown_out : ℕ → List ℕ → Out Val
shown_out limit k = bounded limit (λ r. reads r) (shown_symbol k)

-- the symbol of a key, where the operand has t units
abbrev pub registered : ℕ → List ℕ → Out Val
registered t k = gave (symbol k) (interning (reads t) k)

-- an argument as a number, and then what is used of it
abbrev pub number_out : (Num → Out Num) → ℕ → List Val → Val → Out Num
number_out taken at vs v = converts (from_row vs 0) (to_number at v) taken

-- the string of a call with these arguments
abbrev pub made : List Val → List ℕ → Out Val
made vs u = needing (from_row vs (length u)) (text u)
