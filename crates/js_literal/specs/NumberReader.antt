-- Helpers: no public contract reaches these definitions.
-- What the code tests of a number, and its faults, for the contracts of private functions.
use Rattle.std.specs.Prelude.{ℕ, Bool, List, ◌==◌, ◌||◌}
use Rattle.js_literal.specs.Literal.{is_digit, begins_with}
use Rattle.js_literal.specs.Number.{after_run, is_word_start}
use Rattle.js_literal.specs.declared.fault.NumberFault.{NumberFault}
use Rattle.js_literal.specs.declared.fault.NumberFault.TheVariants as faults
use Rattle.js_literal.specs.declared.number.DigitsFault.{DigitsFault}
use Rattle.js_literal.specs.declared.number.DigitsFault.TheVariants as refusal

-- a point in front
abbrev pub begins_point : List ℕ → Bool
begins_point s = begins_with (λ c. c == 46) s

-- what may not follow the digits: a letter, _, $ or a backslash
abbrev pub begins_tail : List ℕ → Bool
begins_tail s = begins_with (λ c. is_word_start c || c == 92) s

-- what follows the longest run of digits in front
abbrev pub after_digits : List ℕ → List ℕ
after_digits s = after_run is_digit s

abbrev pub number_kind : DigitsFault → ℕ → NumberFault
number_kind refusal.Fraction = faults.Fraction
number_kind refusal.OtherForm = faults.OtherForm
number_kind refusal.TooLarge = faults.TooLarge
