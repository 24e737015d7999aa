-- Array indexes, and the keys of an object in their order (ECMA-262, "OrdinaryOwnPropertyKeys"). What that
-- order is, is defined in `specs/Order.antt`; here is how the list that has it comes about.
use Rattle.std.specs.Prelude.{ℕ, ◌+◌, ◌-◌, ◌*◌, Bool, false, not, ◌&&◌, ◌||◌, ◌==◌, nat_eq, nat_le}
use Rattle.std.specs.Prelude.{if◌then◌else◌, List, [], ◌∷◌, ◌++◌, length, Option, Some, None, map, fold}
use Rattle.std.specs.Option.{option_map_or}
use Rattle.std.specs.Str.{all_ascii_digits}
use Rattle.std.specs.Ordering.{nat_cmp}
use Rattle.std.specs.BTreeMap.{insert_entry}
use Rattle.std.specs.Map.{values_of}
use Rattle.js_store.specs.State.{State, text}
use Rattle.std.specs.Borrow.{Bor}
use Rattle.js_item.specs.Contents.{Content, Fields, no_fields, field}
use Rattle.js_item.specs.declared.item.Member.{Member}
use Rattle.js_item.specs.Views.{content_of}

-- the number that digits denote, behind one that was read
abbrev pub read_on : ℕ → List ℕ → ℕ
read_on n us = fold (λ m u. m * 10 + (u - 48)) n us

-- one to ten decimal digits, with no zero in front of others
abbrev pub has_form : List ℕ → Bool
has_form [] = false
has_form (u ∷ us) =
    (not (u == 48) || nat_eq (length us) 0) && nat_le (length us) 9 && all_ascii_digits (u ∷ us)

-- the number of an array index: decimal digits of a number in 0..4294967294
abbrev pub index_of_key : List ℕ → Option ℕ
index_of_key us = if has_form us && nat_le (read_on 0 us) 4294967294 then Some (read_on 0 us) else None

-- an element goes to the place of its index among those with one, or else to the end of the others
abbrev pub indexes : {X : Type 0} → (X → Option ℕ) → List X → List (ℕ × X) → List (ℕ × X)
indexes index [] es = es
indexes index (x ∷ xs) es = indexes index xs (option_map_or (λ n. insert_entry nat_cmp es n x) (index x) es)

abbrev pub others : {X : Type 0} → (X → Option ℕ) → List X → List X
others index [] = []
others index (x ∷ xs) = option_map_or (λ n. others index xs) (index x) (x ∷ others index xs)

-- the elements in the order of `specs/Order.antt` where indexes differ, and else with the last one of each
-- index
abbrev pub ordered : {X : Type 0} → (X → Option ℕ) → List X → List X
ordered index xs = values_of (indexes index xs []) ++ others index xs

-- the members as keys and values
abbrev pub key_values : {R : Type 0} → Fields R → List (R × Content R)
key_values no_fields = []
key_values (field key value rest) = (key, value) ∷ key_values rest

abbrev pub member_entry : {R : Type 0} → Member R → R × Content R
member_entry m = (m.key, content_of m.value)

abbrev pub lent_entry : {R : Type 0} → Bor (Member R) → R × Content R
lent_entry b = member_entry b.now

-- the array index that the units of a key are
abbrev pub key_index : {F R : Type 0} → State F → (R → ℕ) → R → Option ℕ
key_index s name r = index_of_key (text s (name r))

abbrev pub index_in : {F R : Type 0} → State F → (R → ℕ) → R × Content R → Option ℕ
index_in s name e = key_index s name e.0

abbrev pub keys_of : {R : Type 0} → List (R × Content R) → List R
keys_of es = map (λ e. e.0) es

-- the keys of an object in their order
abbrev pub own_keys : {F R : Type 0} → State F → (R → ℕ) → Fields R → List R
own_keys s name fs = keys_of (ordered (index_in s name) (key_values fs))

-- the keys of an object of units
abbrev pub unit_keys : Fields (List ℕ) → List (List ℕ)
unit_keys fs = map (λ e. e.0) (ordered (λ e. index_of_key e.0) (key_values fs))
