-- Methods that cut a part out of a string. The operands of a call have t units.
use Rattle.std.specs.Prelude.{ℕ, List, Option}
use Rattle.js_number.specs.declared.Num.{Num}
use Rattle.js_item.specs.Seen.{Val}
use Rattle.eval_values.specs.Outcome.{Converted, Out, converts}
use Rattle.eval_values.specs.Need.{reads}
use Rattle.eval_values.specs.Limited.{limited}

-- "String.prototype.slice", "String.prototype.substring", "String.prototype.substr": the part of two numbers,
-- of which the second may be missing
abbrev pub cut_call : ℕ → ℕ → (Num → Option Num → List ℕ) → Converted Num → Converted (Option Num) → Out Val
cut_call limit t part start end =
    converts (reads t) start (λ m. converts (reads t) end (λ n. limited limit t (part m n)))
