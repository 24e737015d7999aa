-- Methods that look for one string in another. The operands of a call have o units as they are, and t where
-- the first one was converted.
use Rattle.std.specs.Prelude.{ℕ, List, Option, pos, negsuc}
use Rattle.std.specs.Option.{option_map_or}
use Rattle.js_number.specs.declared.Num.TheVariants.{Int}
use Rattle.js_item.specs.Seen.{Val}
use Rattle.js_item.specs.Contents.{number}
use Rattle.eval_values.specs.Outcome.{Converted, Out, converting, needing, converts}
use Rattle.eval_values.specs.Need.{reads}
use Rattle.eval_values.specs.Conversions.{to_string}

-- a place, or -1
abbrev pub place_value : Option ℕ → Val
place_value place = number (option_map_or (λ k. Int (pos k)) place (Int (negsuc 0)))

-- the first argument as a string, and then what it and a number give: "String.prototype.includes",
-- "String.prototype.indexOf", "String.prototype.lastIndexOf", "String.prototype.startsWith", and
-- "String.prototype.endsWith", where the number may be missing
abbrev pub search_call : {N : Type 0} → ℕ → ℕ → ℕ → (List ℕ → N → Val) → Val → Converted N → Out Val
search_call limit o t answer w n = converting (reads o) (to_string limit w)
    (λ x. converts (reads t) n (λ k. needing (reads t) (answer x k)))
