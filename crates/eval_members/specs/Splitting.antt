-- Methods that split a string into an array, and that join an array.
use Rattle.eval_members.specs.Operands.{text_or}
use Rattle.std.specs.Option.{option_map_or}
use Rattle.std.specs.Prelude.{ℕ, ◌+◌, List, [], ◌∷◌, length, Option, Some, None, if◌then◌else◌}
use Rattle.js_number.specs.declared.Num.{Num}
use Rattle.js_number.specs.Arith.{modulo}
use Rattle.js_texts.specs.Joined.{joined as joined_list}
use Rattle.js_replace.specs.Parts.{parts as parts_of}
use Rattle.js_item.specs.Seen.{Val}
use Rattle.js_item.specs.Contents.{list}
use Rattle.eval_values.specs.Outcome.{Converted, Out, converting, needing, converts}
use Rattle.eval_values.specs.Need.{reads, parts}
use Rattle.eval_values.specs.Conversions.{to_string, list_units, all_units, first_text_units}
use Rattle.eval_values.specs.Arguments.{first_of, is_undefined}
use Rattle.eval_values.specs.Limited.{bounded}

-- the parts of a string, of operands with t units
abbrev pub split_into : ℕ → List ℕ → ℕ → Option (List ℕ) → Out Val
split_into t u most sep = needing (parts (length (parts_of u sep most))
    (t + list_units (parts_of u sep most))) (list (parts_of u sep most))

-- a separator that isn't given is none
abbrev pub split_most : ℕ → List ℕ → List Val → ℕ → Out Val
split_most limit u vs most =
    if is_undefined (first_of vs) then split_into (length u + first_text_units vs) u most None
    else converting (reads (length u + all_units vs)) (to_string limit (first_of vs))
    (λ w. split_into (length u + first_text_units vs) u most (Some w))

-- "String.prototype.split", of which the limit is converted first: 2^32 - 1 where no number is given, and
-- else the number modulo 2^32 ("ToUint32")
abbrev pub split_call : ℕ → List ℕ → List Val → Converted (Option Num) → Out Val
split_call limit u vs n = converts (reads (length u + all_units vs)) n
    (λ k. split_most limit u vs (option_map_or (modulo 4294967296) k 4294967295))

-- "Array.prototype.join", with a comma where no separator is given
abbrev pub join_call : ℕ → List (List ℕ) → List Val → Out Val
join_call limit us vs =
    converting (parts (length us) (list_units us + all_units vs)) (text_or (44 ∷ []) limit (first_of vs))
    (λ w. bounded limit (λ r. parts (length us) (list_units us + first_text_units vs + r)) (joined_list w us))
