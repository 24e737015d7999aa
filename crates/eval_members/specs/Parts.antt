-- Helpers: no public contract reaches these definitions.
-- Parts of what methods give, by names, for the contracts of private functions and for proofs. The operands
-- of a call have t units.
use Rattle.std.specs.Prelude.{ℕ, ◌+◌, List, [], ◌∷◌, length, Bool, Option, pos, negsuc, if◌then◌else◌}
use Rattle.std.specs.Option.{option_map_or}
use Rattle.js_number.specs.declared.Num.{Num}
use Rattle.js_number.specs.declared.Num.TheVariants.{Int}
use Rattle.js_methods.specs.Building.{repeat_of}
use Rattle.eval_values.specs.declared.value.Kind.TheVariants.{RangeError}
use Rattle.js_texts.specs.Joined.{joined as joined_list}
use Rattle.eval_values.specs.Outcome.{Converted, Out, converting, needing, converts, refuses, throwing}
use Rattle.eval_values.specs.Need.{nothing, reads, joins, parts, repeats, pads}
use Rattle.eval_values.specs.Conversions.{to_string, string_units}
use Rattle.eval_values.specs.Limited.{bounded}
use Rattle.js_item.specs.Contents.{Fields, undefined}
use Rattle.js_item.specs.Seen.{Val}
use Rattle.eval_members.specs.Operands.{text_or}
use Rattle.eval_members.specs.Building.{joined_text}
use Rattle.eval_members.specs.Properties.{is_inherited, property}

-- an object that has no own property of the key
abbrev pub lacking : ℕ → List ℕ → Out Val
lacking at key = if is_inherited key then refuses at else needing nothing undefined

-- the property of the key that an index becomes, other than a symbol
abbrev pub keyed : ℕ → ℕ → Fields (List ℕ) → Val → Out Val
keyed at limit fs i = converting (reads (string_units i)) (to_string limit i) (λ key. property at key fs)

-- the elements with a separator between two
abbrev pub joined_with : ℕ → ℕ → List (List ℕ) → List ℕ → Out Val
joined_with limit t us w = bounded limit (λ r. parts (length us) (t + r)) (joined_list w us)

-- a filler, and then the string u with it, so that it has m units
abbrev pub filled : ℕ → (ℕ → List ℕ → List ℕ) → List ℕ → ℕ → Val → Out Val
filled limit pad u m f = converting (pads (length u + string_units f)) (text_or (32 ∷ []) limit f)
    (λ w. bounded limit (λ r. pads (length u + length w)) (pad m w))

-- a string in which p matches were replaced
abbrev pub replacement : ℕ → ℕ → ℕ → List ℕ → Out Val
replacement limit t p r = bounded limit (λ n. parts p (t + n)) r

-- what a number gives
abbrev pub search_answer : {N : Type 0} → ℕ → (N → Val) → Converted N → Out Val
search_answer t answer n = converts (reads t) n (λ k. needing (reads t) (answer k))

-- one more argument, as a string, behind what was joined so far
abbrev pub one_joined : ℕ → List ℕ → Val → Out (List ℕ)
one_joined limit u v = converting joins (to_string limit v) (λ w. joined_text limit u w)

-- so many copies of a string, where the number is a count
abbrev pub repeated : Bool → ℕ → List ℕ → Num → Out Val
repeated counts limit u n = if counts
    then bounded limit (λ r. repeats (length u)) (repeat_of u n) else throwing (repeats (length u)) RangeError

-- a place, or -1
abbrev pub place_number : Option ℕ → Num
place_number place = option_map_or (λ k. Int (pos k)) place (Int (negsuc 0))
