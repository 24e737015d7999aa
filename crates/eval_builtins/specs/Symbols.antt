-- Symbols and `String` (ECMA-262, "String ( value )", "Symbol.for", "Symbol.keyFor").
use Rattle.std.specs.Prelude.{ℕ, List, [], ◌∷◌, ◌++◌, length, codes}
use Rattle.eval_values.specs.declared.value.Kind.TheVariants.{TypeError}
use Rattle.js_item.specs.Seen.{Val}
use Rattle.js_item.specs.Contents.{text, symbol}
use Rattle.eval_values.specs.Outcome.{Out, gave, needing, throwing, converting, interning}
use Rattle.eval_values.specs.Need.{reads}
use Rattle.eval_values.specs.Conversions.{to_string, text_units, string_units}
use Rattle.eval_values.specs.Limited.{bounded}
use Rattle.eval_builtins.specs.Quoting.{as_text}

-- "String ( value )"; `String()` is the empty string
abbrev pub string_conversion : ℕ → List Val → Out Val
string_conversion limit [] = needing (reads 0) (text [])
string_conversion limit (symbol k ∷ vs) = bounded limit (λ r. reads r) (codes "Symbol(" ++ (k ++ codes ")"))
string_conversion limit (v ∷ vs) = as_text limit v

-- "Symbol.for": the one symbol of a key, which is interned
abbrev pub symbol_for : ℕ → Val → Out Val
symbol_for limit v = converting (reads (string_units v)) (to_string limit v)
    (λ k. gave (symbol k) (interning (reads (text_units v)) k))

abbrev pub key_for : Val → Out Val
key_for (symbol k) = needing (reads (length k)) (text k)
key_for v = throwing (reads (string_units v)) TypeError
