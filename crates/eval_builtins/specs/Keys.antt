-- The keys of objects ("Object.keys").
use Rattle.std.specs.Prelude.{ℕ}
use Rattle.js_item.specs.Contents.{undefined, null, list, object}
use Rattle.js_item.specs.Seen.{Val}
use Rattle.js_object.specs.Keys.{unit_keys}
use Rattle.eval_values.specs.declared.value.Kind.TheVariants.{TypeError}
use Rattle.eval_values.specs.Outcome.{Out, needing, throwing, refuses}
use Rattle.eval_values.specs.Need.{reads}
use Rattle.eval_values.specs.Conversions.{list_units}

-- a call at a place, with this first argument: an array of the own keys in their order
-- ("EnumerableOwnProperties"); the profile leaves out the keys of values that are no objects
abbrev pub keys_call : ℕ → Val → Out Val
keys_call at undefined = throwing (reads 0) TypeError
keys_call at null = throwing (reads 0) TypeError
keys_call at (object fs) = needing (reads (list_units (unit_keys fs))) (list (unit_keys fs))
keys_call at _ = refuses at
