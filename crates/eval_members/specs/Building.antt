-- Methods that build another string.
use Rattle.std.specs.Prelude.{ℕ, ◌+◌, List, [], ◌∷◌, ◌++◌, length, nat_le, if◌then◌else◌}
use Rattle.eval_values.specs.declared.value.Kind.TheVariants.{RangeError}
use Rattle.js_item.specs.Seen.{Val}
use Rattle.eval_values.specs.Outcome.{Out, gave, bind, converting, cost, throwing, Converted, converts}
use Rattle.eval_values.specs.Need.{nothing, joins, repeats, pads}
use Rattle.eval_values.specs.Conversions.{to_string, string_units}
use Rattle.eval_values.specs.Limited.{bounded}
use Rattle.eval_members.specs.Operands.{text_or}
use Rattle.js_number.specs.declared.Num.{Num}
use Rattle.js_number.specs.Arith.{length_of}
use Rattle.js_methods.specs.Building.{is_count, repeat_of}

-- two strings joined, unless they are longer together than a string may be
abbrev pub joined_text : ℕ → List ℕ → List ℕ → Out (List ℕ)
joined_text limit u w =
    if nat_le (length u + length w) limit then gave (u ++ w) (cost joins) else throwing joins RangeError

-- "String.prototype.concat": each argument in turn
abbrev pub concat_call : ℕ → List ℕ → List Val → Out Val
concat_call limit u [] = bounded limit (λ r. nothing) u
concat_call limit u (v ∷ vs) = bind (converting joins (to_string limit v) (λ w. joined_text limit u w))
    (λ w. concat_call limit w vs)

-- the string u padded to m units, by one space where no filler is given; the filler isn't looked at where u
-- has as many
abbrev pub padded : ℕ → (ℕ → List ℕ → List ℕ) → List ℕ → ℕ → Val → Out Val
padded limit pad u m f = if nat_le m (length u) then bounded limit (λ r. pads (length u + string_units f)) u
    else converting (pads (length u + string_units f)) (text_or (32 ∷ []) limit f)
    (λ w. bounded limit (λ r. pads (length u + length w)) (pad m w))

-- "String.prototype.padStart", "String.prototype.padEnd"
abbrev pub pad_call : ℕ → (ℕ → List ℕ → List ℕ) → List ℕ → Converted Num → Val → Out Val
pad_call limit pad u n f =
    converts (pads (length u + string_units f)) n (λ k. padded limit pad u (length_of k) f)

-- "String.prototype.repeat": so many copies of a string, where the number is a count
abbrev pub repeat_call : ℕ → List ℕ → Converted Num → Out Val
repeat_call limit u n = converts (repeats (length u)) n (λ k. if is_count k then
    bounded limit (λ r. repeats (length u)) (repeat_of u k) else throwing (repeats (length u)) RangeError)
