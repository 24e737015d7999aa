-- The URI handling functions as a script calls them (ECMA-262, "URI Handling Functions").
use Rattle.std.specs.Prelude.{ℕ, List, Ok, Err}
use Rattle.js_uri.specs.Outcome.{UriOutcome}
use Rattle.eval_values.specs.declared.value.Kind.TheVariants.{UriError}
use Rattle.js_item.specs.Seen.{Val}
use Rattle.eval_values.specs.Outcome.{Out, throwing, converting}
use Rattle.eval_values.specs.Need.{reads}
use Rattle.eval_values.specs.Conversions.{to_string, text_units, string_units}
use Rattle.eval_values.specs.Limited.{limited}

-- what units come to that were encoded or decoded, where the operand has t units:
-- malformed units are a URIError
abbrev pub uri_value : ℕ → ℕ → UriOutcome → Out Val
uri_value limit t (Ok us) = limited limit t us
uri_value limit t (Err at) = throwing (reads t) UriError

-- a call with this first argument, which becomes a string, where `f` encodes or decodes units
abbrev pub uri_call : (List ℕ → UriOutcome) → ℕ → Val → Out Val
uri_call f limit v =
    converting (reads (string_units v)) (to_string limit v) (λ us. uri_value limit (text_units v) (f us))
