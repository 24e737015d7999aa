-- Built-in functions (ECMA-262, "The String Constructor", "Properties of the String Constructor", "Properties
-- of the Symbol Constructor", "JSON.stringify", "Object.keys", "URI Handling Functions").
use Rattle.std.specs.Prelude.{ℕ, List, map}
use Rattle.eval_tree.specs.declared.tree.Builtin.{Builtin}
use Rattle.eval_tree.specs.declared.tree.Builtin.TheVariants.{String, FromCharCode, FromCodePoint}
use Rattle.eval_tree.specs.declared.tree.Builtin.TheVariants.{SymbolFor, KeyFor, Stringify, EncodeUri}
use Rattle.eval_tree.specs.declared.tree.Builtin.TheVariants.{EncodeUriComponent, DecodeUri}
use Rattle.eval_tree.specs.declared.tree.Builtin.TheVariants.{DecodeUriComponent, Keys}
use Rattle.js_number.specs.Arith.{modulo}
use Rattle.js_methods.specs.Building.{code_units_of}
use Rattle.js_uri.specs.Encoding.{encoded}
use Rattle.js_uri.specs.Decoding.{decoded}
use Rattle.js_uri.specs.Sets.{component_keep, uri_keep, no_hold, is_uri_reserved}
use Rattle.js_item.specs.Seen.{Val}
use Rattle.eval_values.specs.Outcome.{Out, gave, free}
use Rattle.eval_values.specs.Arguments.{first_of}
use Rattle.eval_builtins.specs.Codes.{from_numbers, point_out}
use Rattle.eval_builtins.specs.Quoting.{stringify_call}
use Rattle.eval_builtins.specs.Symbols.{string_conversion, symbol_for, key_for}
use Rattle.eval_builtins.specs.Uris.{uri_call}
use Rattle.eval_builtins.specs.Keys.{keys_call}

-- a call of a built-in function, with all its arguments: `String.fromCharCode` takes each number modulo 2^16,
-- `String.fromCodePoint` gives the UTF-16 of the code points
abbrev pub built : Builtin → ℕ → ℕ → List Val → Out Val
built String at limit vs = string_conversion limit vs
built FromCharCode at limit vs = from_numbers (λ n. gave n free) (map (modulo 65536)) at vs
built FromCodePoint at limit vs = from_numbers (point_out vs) code_units_of at vs
built SymbolFor at limit vs = symbol_for limit (first_of vs)
built KeyFor at limit vs = key_for (first_of vs)
built Stringify at limit vs = stringify_call limit (first_of vs)
built EncodeUri at limit vs = uri_call (λ us. encoded us uri_keep) limit (first_of vs)
built EncodeUriComponent at limit vs = uri_call (λ us. encoded us component_keep) limit (first_of vs)
built DecodeUri at limit vs = uri_call (λ us. decoded us is_uri_reserved) limit (first_of vs)
built DecodeUriComponent at limit vs = uri_call (λ us. decoded us no_hold) limit (first_of vs)
built Keys at limit vs = keys_call at (first_of vs)
