-- Objects as lists of members: the place and the value of a key, and a member put in.
use Rattle.std.specs.Prelude.{ℕ, ◌+◌, zero, suc, Bool, Option, Some, None, if◌then◌else◌, bytes_eq, List}
use Rattle.js_store.specs.State.{State, text}
use Rattle.js_item.specs.Contents.{Content, Fields, no_fields, field}

-- how many members an object has
abbrev pub width : {R : Type 0} → Fields R → ℕ
width no_fields = 0
width (field key value rest) = width rest + 1

abbrev pub one_on : Option ℕ → Option ℕ
one_on (Some n) = Some (suc n)
one_on None = None

-- the place of the first member whose key is so
abbrev pub place_by : {R : Type 0} → (R → Bool) → Fields R → Option ℕ
place_by is no_fields = None
place_by is (field key value rest) = if is key then Some 0 else one_on (place_by is rest)

-- its value
abbrev pub value_by : {R : Type 0} → (R → Bool) → Fields R → Option (Content R)
value_by is no_fields = None
value_by is (field key value rest) = if is key then Some value else value_by is rest

-- the value in the place of the one whose key is so, or else a new member at the end
abbrev pub put_by : {R : Type 0} → (R → Bool) → R → Content R → Fields R → Fields R
put_by is key value no_fields = field key value no_fields
put_by is key value (field k v rest) =
    if is k then field k value rest else field k v (put_by is key value rest)

-- whether a reference names a string of these units
abbrev pub has_units : {F R : Type 0} → State F → (R → ℕ) → List ℕ → R → Bool
has_units s name units r = bytes_eq (text s (name r)) units

-- whether it names a string of the units of the key
abbrev pub names_key : {F R : Type 0} → State F → (R → ℕ) → R → R → Bool
names_key s name key = has_units s name (text s (name key))

-- the value in the place of that of the member at i
abbrev pub with_value : {R : Type 0} → ℕ → Content R → Fields R → Fields R
with_value i value no_fields = no_fields
with_value zero value (field k v rest) = field k value rest
with_value (suc i) value (field k v rest) = field k v (with_value i value rest)
