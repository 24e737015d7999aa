-- Comparisons of values (ECMA-262, "IsStrictlyEqual", "IsLessThan").
use Rattle.std.specs.Prelude.{ℕ, ◌+◌, List, length, Option, Some, None, Bool, true, false, not, bytes_eq}
use Rattle.std.specs.Prelude.{if◌then◌else◌, ◌||◌}
use Rattle.std.specs.declared.cmp.Ordering.{Ordering}
use Rattle.std.specs.declared.cmp.Ordering.TheVariants.{Less, Equal, Greater}
use Rattle.js_number.specs.declared.Num.{Num}
use Rattle.js_number.specs.Arith.{below}
use Rattle.js_search.specs.Order.{units_cmp}
use Rattle.js_item.specs.Seen.{Val}
use Rattle.js_item.specs.Contents.{undefined, null, bool, number, text, symbol, list, object}
use Rattle.eval_values.specs.Outcome.{Out, gave, free, cost, bind, converts, refuses}
use Rattle.eval_values.specs.Need.{nothing, reads}
use Rattle.eval_values.specs.Conversions.{to_number}
use Rattle.eval_values.specs.Operators.{paired, primitive}

-- the order of two numbers, none where one is NaN ("Number::lessThan")
abbrev pub order_by : Option Bool → Option Bool → Option Ordering
order_by (Some true) c = Some Less
order_by (Some false) (Some true) = Some Greater
order_by (Some false) (Some false) = Some Equal
order_by _ _ = None

abbrev pub number_order : Num → Num → Option Ordering
number_order m n = order_by (below m n) (below n m)

abbrev pub is_equal : Option Ordering → Bool
is_equal (Some Equal) = true
is_equal _ = false

-- what a comparison of two strings gives, which reads both
abbrev pub compared : {A : Type 0} → A → List ℕ → List ℕ → Out A
compared x u w = gave x (cost (reads (length u + length w)))

-- "IsStrictlyEqual"; values of different types are unequal. Numbers are equal by their value, where NaN is
-- unequal to itself, and symbols by their key, which is as good as their identity, since there is one symbol
-- of each key. Two arrays, and two objects, are left out of the profile.
abbrev pub same_out : ℕ → Val → Val → Out Bool
same_out at undefined undefined = gave true free
same_out at null null = gave true free
same_out at (bool b) (bool c) = gave (if b then c else not c) free
same_out at (number m) (number n) = gave (is_equal (number_order m n)) free
same_out at (text u) (text w) = compared (bytes_eq u w) u w
same_out at (symbol k) (symbol l) = gave (bytes_eq k l) free
same_out at (list us) (list ws) = refuses at
same_out at (object fs) (object gs) = refuses at
same_out at _ _ = gave false free

-- the order of two primitive values. Where both are strings it is that of their units. Else both become
-- numbers: a symbol throws, whatever its side, before a string ends the script
abbrev pub order_primitives : ℕ → Val → Val → Out (Option Ordering)
order_primitives at (text u) (text w) = compared (Some (units_cmp u w)) u w
order_primitives at v w =
    converts nothing (paired (to_number at v) (to_number at w)) (λ p. gave (number_order p.0 p.1) free)

-- arrays and objects become strings before anything else, from left to right; what ends there has needed its
-- conversions alone
abbrev pub order_out : ℕ → ℕ → Val → Val → Out (Option Ordering)
order_out at limit v w = bind (primitive limit v) (λ x. bind (primitive limit w) (order_primitives at x))

-- what each operator says of an order; all are false where one side is NaN
abbrev pub is_less : Option Ordering → Bool
is_less (Some Less) = true
is_less _ = false

abbrev pub is_greater : Option Ordering → Bool
is_greater (Some Greater) = true
is_greater _ = false

abbrev pub is_at_most : Option Ordering → Bool
is_at_most order = is_less order || is_equal order

abbrev pub is_at_least : Option Ordering → Bool
is_at_least order = is_greater order || is_equal order
