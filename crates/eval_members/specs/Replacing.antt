-- Methods that put a template in the place of matches. The operands of a call have o units as they are, m
-- where the first one was converted, and t where both were.
use Rattle.std.specs.Prelude.{ℕ, ◌+◌, List, [], ◌∷◌}
use Rattle.js_item.specs.Seen.{Val}
use Rattle.eval_values.specs.Outcome.{Out, converting}
use Rattle.eval_values.specs.Need.{reads, parts}
use Rattle.eval_values.specs.Conversions.{to_string, text_units, first_text_units}
use Rattle.eval_values.specs.Limited.{bounded}

-- the units of the arguments, of which the first two were converted by ToString
abbrev pub two_text_units : List Val → ℕ
two_text_units [] = 0
two_text_units (v ∷ vs) = text_units v + first_text_units vs

-- the searched string and the template as strings, in this order, and then what they give, where no match
-- counts as one: "String.prototype.replace", "String.prototype.replaceAll"
abbrev pub replace_call : ℕ → ℕ → ℕ → ℕ → (List ℕ → ℕ) → (List ℕ → List ℕ → List ℕ) → Val → Val → Out Val
replace_call limit o m t count replaced w template = converting (reads o) (to_string limit w)
    (λ x. converting (reads m) (to_string limit template)
    (λ y. bounded limit (λ n. parts (count x) (t + n)) (replaced x y)))
