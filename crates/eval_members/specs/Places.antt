-- Methods that read at one place. The operands of a call have t units.
use Rattle.eval_values.specs.Conversions.{string_units}
use Rattle.std.specs.Prelude.{ℕ, ◌+◌, List, Option, pos}
use Rattle.std.specs.Option.{option_map_or}
use Rattle.js_number.specs.declared.Num.{Num}
use Rattle.js_number.specs.declared.Num.TheVariants.{Int}
use Rattle.js_item.specs.Seen.{Val}
use Rattle.js_item.specs.Contents.{undefined, number, text}
use Rattle.eval_values.specs.Outcome.{Converted, Out, needing, converts}
use Rattle.eval_values.specs.Need.{reads}

-- what is there, or undefined
abbrev pub maybe_text : Option (List ℕ) → Val
maybe_text found = option_map_or text found undefined

abbrev pub maybe_count : Option ℕ → Val
maybe_count found = option_map_or (λ n. number (Int (pos n))) found undefined

-- a value that is read, where the operands have t units
abbrev pub element : ℕ → Val → Out Val
element t v = needing (reads (t + string_units v)) v

-- what a number gives of a string: "String.prototype.at", "String.prototype.charAt",
-- "String.prototype.charCodeAt", "String.prototype.codePointAt"
abbrev pub access_call : ℕ → (Num → Val) → Converted Num → Out Val
access_call t answer n = converts (reads t) n (λ k. element t (answer k))
