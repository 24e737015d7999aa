-- Helpers: no public contract reaches these definitions.
-- The two functions that make a string of numbers.
use Rattle.std.specs.Prelude.{ℕ, List, map}
use Rattle.js_number.specs.Arith.{modulo}
use Rattle.js_methods.specs.Building.{code_units_of}
use Rattle.js_item.specs.Seen.{Val}
use Rattle.eval_values.specs.Outcome.{Out, gave, free}
use Rattle.eval_builtins.specs.Codes.{from_numbers, point_out}

-- "String.fromCharCode"
abbrev pub char_codes_call : ℕ → List Val → Out Val
char_codes_call at vs = from_numbers (λ n. gave n free) (map (modulo 65536)) at vs

-- "String.fromCodePoint"
abbrev pub code_points_call : ℕ → List Val → Out Val
code_points_call at vs = from_numbers (point_out vs) code_units_of at vs
