-- Each object within an object has fewer members than it.
use Rattle.std.specs.Prelude.{◌+◌, ◌≤◌, max, List, [], ◌∷◌}
use Rattle.std.proofs.Common.{arith}
use denote.Param.Weighed.{most}
use Rattle.js_item.specs.Contents.{count_in, count}
use Rattle.js_item.specs.declared.item.Item.{Item}
use Rattle.js_item.specs.declared.item.Item.TheVariants as item
use Rattle.js_item.specs.declared.item.Member.{Member}
use Rattle.js_item.specs.declared.item.Object.TheDeep.{deep-Item, deep-Member}
use Rattle.js_item.specs.Views.{content_of, fields_of}

falls_item : {R : Type 0} (v : Item R) → deep-Item R v ≤ count_in (content_of v) + 1
falls_item item.Undefined = omega arith
falls_item item.Null = omega arith
falls_item (item.Bool b) = omega arith
falls_item (item.Number n) = omega arith
falls_item (item.Text r) = omega arith
falls_item (item.Symbol r) = omega arith
falls_item (item.List v) = omega arith
falls_item (item.Object fs) = omega arith

most_le_size : {R : Type 0} (ms : List (Member R)) → most (deep-Member R) ms ≤ count (fields_of ms)
most_le_size [] = omega arith
most_le_size (m ∷ ms) = omega (arith, falls_item m.value, most_le_size ms)

pub depth_le_size : {R : Type 0} (ms : List (Member R))
    → max (most (deep-Member R) ms) 0 ≤ count (fields_of ms)
depth_le_size ms = omega (arith, most_le_size ms)
