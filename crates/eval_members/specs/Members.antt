-- Members and methods of values.
use Rattle.std.specs.Prelude.{ℕ, ◌+◌, List, length, pos, codes}
use Rattle.js_number.specs.declared.Num.TheVariants.{Int}
use Rattle.eval_tree.specs.declared.tree.Method.{Method}
use Rattle.eval_values.specs.declared.value.Kind.TheVariants.{TypeError}
use Rattle.js_item.specs.Seen.{Val}
use Rattle.js_item.specs.Contents.{undefined, null, number, text, symbol, list, object}
use Rattle.eval_values.specs.Outcome.{Out, gave, free, number_of, needing, throwing}
use Rattle.eval_values.specs.Need.{nothing, reads}
use Rattle.eval_values.specs.Conversions.{list_units, all_units}
use Rattle.eval_members.specs.Operands.{operands}
use Rattle.eval_members.specs.Properties.{plain_property}
use Rattle.eval_members.specs.Methods.{list_call, string_call}

abbrev pub length_property : Val → Out Val
length_property undefined = throwing nothing TypeError
length_property null = throwing nothing TypeError
length_property (text u) = needing nothing (number (Int (pos (length u))))
length_property (list us) = needing nothing (number_of (length us))
length_property (object fs) = plain_property (codes "length") fs
length_property _ = needing nothing undefined

-- the key of a symbol ("Symbol.prototype.description")
abbrev pub description_of : Val → Out Val
description_of undefined = throwing nothing TypeError
description_of null = throwing nothing TypeError
description_of (symbol k) = needing nothing (text k)
description_of (object fs) = plain_property (codes "description") fs
description_of _ = needing nothing undefined

-- a value that has members (ECMA-262, "RequireObjectCoercible")
abbrev pub present : Val → Out (Unit {0})
present undefined = throwing (reads 0) TypeError
present null = throwing (reads 0) TypeError
present v = gave tt free

-- a call of a method on a value, with all its arguments,
-- of which the method uses those that its definition names
abbrev pub called : Method → ℕ → ℕ → Val → List Val → Out Val
called m at limit (text u) vs =
    string_call m at limit (length u + all_units (operands m vs)) u (operands m vs)
called m at limit (list us) vs =
    list_call m at limit (list_units us + all_units (operands m vs)) us (operands m vs)
called m at limit v vs = throwing (reads (all_units (operands m vs))) TypeError
