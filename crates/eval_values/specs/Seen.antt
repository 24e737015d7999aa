-- What the values of the code denote in a store, and when they may be used; of one value, `js_item` says so.
use Rattle.std.specs.Prelude.{◌≡◌, ◌⊎◌, ℕ, List, map, Option, Some, None}
use Rattle.js_number.specs.declared.Num.{Num}
use Rattle.js_number.specs.Places.{IsLawful}
use Rattle.js_store.specs.State.{State, IsKnown, IsSettled, Interned, text as units_of}
use Rattle.js_texts.specs.Texts.{Every}
use Rattle.js_item.specs.Contents.{undefined, number}
use Rattle.js_item.specs.declared.item.Item.{Item}
use Rattle.js_item.specs.declared.item.Item.TheVariants as item
use Rattle.js_item.specs.Fine.{IsFine}
use Rattle.js_item.specs.Seen.{Val, seen}
use Rattle.eval_values.specs.Outcome.{number_of}

-- a string that is known and was interned; a symbol is its key's one interned string
abbrev pub IsKey : {F : Type 0} → State F → ℕ → Type 0
IsKey s n = IsKnown s n × Interned s (units_of s n) n

abbrev pub all_seen : {F R : Type 0} → State F → (R → ℕ) → List (Item R) → List Val
all_seen s name vs = map (λ v. seen s name v) vs

abbrev pub AllFine : {F R : Type 0} → State F → (R → ℕ) → List (Item R) → Type 0
AllFine s name vs = Every (λ v. IsFine s name v) vs

-- a value that is the number as it is written, in any store
abbrev pub IsNumberWritten : {R : Type 0} → Item R → ℕ → Type 0
IsNumberWritten item.Undefined n = number_of n ≡ undefined
IsNumberWritten (item.Number m) n = (number_of n ≡ number m) × IsLawful m
IsNumberWritten item.Null n = ⊥
IsNumberWritten (item.Bool b) n = ⊥
IsNumberWritten (item.Text r) n = ⊥
IsNumberWritten (item.Symbol r) n = ⊥
IsNumberWritten (item.List v) n = ⊥
IsNumberWritten (item.Object fs) n = ⊥

-- an end that is given is a valid number
abbrev pub LawfulEnd : Option Num → Type 0
LawfulEnd (Some n) = IsLawful n
LawfulEnd None = Unit {0}

-- a string is settled; of other values nothing is said
abbrev pub TextSettled : {F R : Type 0} → State F → (R → ℕ) → Item R → Type 0
TextSettled s name (item.Text r) = IsSettled s (name r)
TextSettled s name _ = Unit {0}

-- two strings are one, by their number, or both are settled
abbrev pub OneOrSettled : {F : Type 0} → State F → ℕ → ℕ → Type 0
OneOrSettled s m n = (m ≡ n) ⊎ (IsSettled s m × IsSettled s n)

-- the same of a string and a value, where that is a string
abbrev pub TextRead : {F R : Type 0} → State F → (R → ℕ) → ℕ → Item R → Type 0
TextRead s name n (item.Text r) = OneOrSettled s n (name r)
TextRead s name n _ = Unit {0}

-- the same of two values where both are strings
abbrev pub TextsRead : {F R : Type 0} → State F → (R → ℕ) → Item R → Item R → Type 0
TextsRead s name (item.Text r) w = TextRead s name (name r) w
TextsRead s name _ w = Unit {0}

-- a string is its own primitive value
abbrev pub OwnText : {R : Type 0} → Item R → Item R → Type 0
OwnText (item.Text r) w = w ≡ item.Text r
OwnText _ w = Unit {0}
