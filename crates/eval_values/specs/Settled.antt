-- Which strings ToString of a value reads: those of an array that it joins.
-- The string that it gives may then be read.
use Rattle.std.specs.Prelude.{◌≡◌, ℕ, List, [], ◌∷◌}
use Rattle.js_store.specs.State.{State, IsSettled}
use Rattle.js_texts.specs.Texts.{AllSettled}
use Rattle.js_item.specs.declared.item.Item.{Item}
use Rattle.js_item.specs.declared.item.Item.TheVariants as item

-- the string n that a value became: a string is its own; the elements of an array are settled,
-- and so is each string that was made
abbrev pub IsTextOf : {F R : Type 0} → State F → (R → ℕ) → Item R → ℕ → Type 0
IsTextOf s name (item.Text r) n = n ≡ name r
IsTextOf s name (item.List rs) n = AllSettled s name rs.items × IsSettled s n
IsTextOf s name _ n = IsSettled s n

-- the same of the first and of the second argument, where a missing one is undefined
abbrev pub IsFirstText : {F R : Type 0} → State F → (R → ℕ) → List (Item R) → ℕ → Type 0
IsFirstText s name [] n = IsSettled s n
IsFirstText s name (v ∷ vs) n = IsTextOf s name v n

abbrev pub IsSecondText : {F R : Type 0} → State F → (R → ℕ) → List (Item R) → ℕ → Type 0
IsSecondText s name [] n = IsSettled s n
IsSecondText s name (v ∷ vs) n = IsFirstText s name vs n

-- the elements of an array are settled; of other values nothing is said
abbrev pub ElementsSettled : {F R : Type 0} → State F → (R → ℕ) → Item R → Type 0
ElementsSettled s name (item.List rs) = AllSettled s name rs.items
ElementsSettled s name _ = Unit {0}

-- a string is settled, and so are the elements of an array; of other values nothing is said
abbrev pub StringsSettled : {F R : Type 0} → State F → (R → ℕ) → Item R → Type 0
StringsSettled s name (item.Text r) = IsSettled s (name r)
StringsSettled s name (item.List rs) = AllSettled s name rs.items
StringsSettled s name _ = Unit {0}

-- of the first and of the second argument, where it is given
abbrev pub OfFirst : {A : Type 0} → (A → Type 0) → List A → Type 0
OfFirst P [] = Unit {0}
OfFirst P (v ∷ vs) = P v

abbrev pub OfSecond : {A : Type 0} → (A → Type 0) → List A → Type 0
OfSecond P [] = Unit {0}
OfSecond P (v ∷ vs) = OfFirst P vs
