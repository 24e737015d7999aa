-- Which strings a call of a method, or an index, has read: they are settled once it gave a value.
use Rattle.js_item.specs.Contents.{number}
use Rattle.std.specs.Prelude.{ℕ, List, Option, Some, None, IsSome}
use Rattle.js_number.specs.declared.Num.{Num}
use Rattle.js_store.specs.State.{State, IsSettled, text as units_of}
use Rattle.js_item.specs.declared.item.Item.{Item}
use Rattle.js_item.specs.declared.item.Item.TheVariants as item
use Rattle.js_item.specs.Seen.{Val}
use Rattle.eval_tree.specs.declared.tree.Method.{Method}
use Rattle.eval_values.specs.Settled.{StringsSettled}
use Rattle.eval_members.specs.Operands.{operands}
use Rattle.eval_members.specs.Indexing.{unit_at}
use Rattle.eval_members.specs.Methods.{StringSettled, ListSettled, StringOperandsSettled}
use Rattle.eval_members.specs.Methods.{ListOperandsSettled}

-- what a call with the arguments vs has read of a value, from the state a to the state b
abbrev pub CallSettles : {F R : Type 0} → Method → ℕ → State F → State F → (R → ℕ) → Item R → List Val
    → Type 0
CallSettles m at a b name (item.Text r) vs =
    StringSettled m at b (name r) (units_of a (name r)) (operands m vs)
CallSettles m at a b name (item.List rs) vs = ListSettled m b name rs.items
CallSettles m at a b name _ vs = Unit {0}

-- the arguments vs of a call on a value
abbrev pub OperandsSettled : {F R : Type 0} → Method → ℕ → State F → State F → (R → ℕ) → Item R
    → List (Item R) → Type 0
OperandsSettled m at a b name (item.Text r) vs =
    StringOperandsSettled m at a b name (units_of a (name r)) (operands m vs)
OperandsSettled m at a b name (item.List rs) vs = ListOperandsSettled m b name (operands m vs)
OperandsSettled m at a b name _ vs = Unit {0}

-- the number that an index is
abbrev pub as_number : Val → Option Num
as_number (number i) = Some i
as_number _ = None

-- the string n with the units u, where an index is a number at which it has a unit
abbrev pub UnitSettled : {F : Type 0} → State F → ℕ → List ℕ → Option Num → Type 0
UnitSettled s n u (Some i) = IsSome (unit_at u i) → IsSettled s n
UnitSettled s n u None = Unit {0}

-- what an index has read of a value
abbrev pub IndexSettles : {F R : Type 0} → State F → State F → (R → ℕ) → Item R → Option Num → Type 0
IndexSettles a b name (item.Text r) i = UnitSettled b (name r) (units_of a (name r)) i
IndexSettles a b name _ i = Unit {0}

-- the key of a member, which an index of an object becomes
abbrev pub KeySettled : {F R : Type 0} → State F → (R → ℕ) → Item R → Item R → Type 0
KeySettled s name (item.Object fs) i = StringsSettled s name i
KeySettled s name _ i = Unit {0}
