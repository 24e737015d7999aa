-- Helpers: no public contract reaches these definitions.
-- Numbers that a function of the String constructor uses, by the code's names of these functions.
use Rattle.std.specs.Prelude.{◌≡◌, ℕ, true, List, map}
use Rattle.js_number.specs.declared.Num.{Num}
use Rattle.js_number.specs.Arith.{modulo}
use Rattle.js_number.specs.Places.{IsLawful}
use Rattle.js_store.specs.State.{State}
use Rattle.js_methods.specs.Building.{is_code_point, code_units_of}
use Rattle.js_texts.specs.Texts.{Every}
use Rattle.eval_builtins.specs.declared.codes.Codes.{Codes}
use Rattle.eval_builtins.specs.declared.codes.Codes.TheVariants.{CharCodes, CodePoints}
use Rattle.std.specs.Prelude.{Result}
use Rattle.std.proofs.Common.{Vec, Global}
use Rattle.eval_values.specs.declared.value.Stop.{Stop}
use Rattle.js_item.specs.Seen.{Val}
use Rattle.eval_values.specs.Outcome.{Out, gave, free}
use Rattle.eval_builtins.specs.Codes.{point_out, from_numbers}
use Rattle.eval_values.specs.Ran.{ComesTo}

-- a number that a function of the String constructor uses
abbrev pub IsFor : Codes → Num → Type 0
IsFor CharCodes n = IsLawful n
IsFor CodePoints n = is_code_point n ≡ true

-- what is used of a number, and the units of the numbers
abbrev pub taken_of : Codes → List Val → Num → Out Num
taken_of CharCodes vs n = gave n free
taken_of CodePoints vs n = point_out vs n

abbrev pub units_of : Codes → List Num → List ℕ
units_of CharCodes ns = map (modulo 65536) ns
units_of CodePoints ns = code_units_of ns

abbrev pub codes_call : Codes → ℕ → List Val → Out Val
codes_call which at vs = from_numbers (taken_of which vs) (units_of which) at vs

-- numbers that a function of the String constructor uses
abbrev pub GivesNumber : {F : Type 0} → State F → State F → Codes → Result Num Stop → Out Num → Type 0
GivesNumber a b which r o = ComesTo a b (λ s n. n) (λ s n. IsFor which n) r o

abbrev pub GivesNumbers : {F : Type 0} → State F → State F → Codes → Result (Vec Num Global) Stop
    → Out (List Num) → Type 0
GivesNumbers a b which r o = ComesTo a b (λ s v. v.items) (λ s v. Every (IsFor which) v.items) r o
