-- When items may be used in a store.
use Rattle.std.specs.Prelude.{◌≡◌, ℕ, ◌≤◌, suc, max, List, Bool, Option, IsSome, IsTrue, Contains}
use Rattle.std.specs.Prelude.{unwrap_or, []}
use Rattle.js_number.specs.Places.{IsLawful}
use Rattle.js_store.specs.State.{State}
use Rattle.js_texts.specs.Texts.{Every}
use Rattle.js_item.specs.Contents.{Content, undefined, null, bool, number, text, symbol, list, object}
use Rattle.js_item.specs.Contents.{Fields, no_fields, field, count}
use Rattle.js_item.specs.declared.item.Item.{Item}
use Rattle.js_item.specs.Views.{content_of}

-- what a store knows of its strings: the units of each number, which ones are settled, and the internings
pub record KnownStrings : Type 0 where
  pub known : ℕ → Option (List ℕ)
  pub settled : ℕ → Bool
  pub history : List (List ℕ × ℕ)

abbrev pub strings_of : {F : Type 0} → State F → KnownStrings
strings_of s = record { known = s.known; settled = s.settled; history = s.history }

-- a known string
abbrev pub TextFine : KnownStrings → ℕ → Type 0
TextFine s n = IsSome (s.known n)

-- a known string that was interned
abbrev pub SymbolFine : KnownStrings → ℕ → Type 0
SymbolFine s n = IsSome (s.known n) × Contains s.history (unwrap_or (s.known n) [], n)

-- a known string that was interned and is settled
pub record KeyFine (s : KnownStrings) (n : ℕ) : Type 0 where
  pub known : IsSome (s.known n)
  pub interned : Contains s.history (unwrap_or (s.known n) [], n)
  pub settled : IsTrue (s.settled n)

-- how deep objects nest
abbrev mutual
  pub depth_in : {R : Type 0} → Content R → ℕ
  depth_in (object fs) = suc (depth fs)
  depth_in _ = 0

  -- of the values of the members
  pub depth : {R : Type 0} → Fields R → ℕ
  depth no_fields = 0
  depth (field key value rest) = max (depth_in value) (depth rest)

-- an object that is nested at most 200 deep, itself counted, with at most 65,536 members in all its levels
pub record Bounded {R : Type 0} (fs : Fields R) : Type 0 where
  pub deep : suc (depth fs) ≤ 200
  pub many : count fs ≤ 65536

-- the units of a number
abbrev pub units_at : KnownStrings → ℕ → List ℕ
units_at s n = unwrap_or (s.known n) []

-- no key of the members has these units
abbrev pub NoKey : {R : Type 0} → KnownStrings → (R → ℕ) → List ℕ → Fields R → Type 0
NoKey s name u no_fields = Unit {0}
NoKey s name u (field key value rest) = (units_at s (name key) ≡ u → ⊥) × NoKey s name u rest

-- valid numbers, known strings, symbols that were interned, and objects whose keys and values are fine, whose
-- keys differ, and which are bounded
abbrev mutual
  pub FineOf : {R : Type 0} → KnownStrings → (R → ℕ) → Content R → Type 0
  FineOf s name undefined = Unit {0}
  FineOf s name null = Unit {0}
  FineOf s name (bool b) = Unit {0}
  FineOf s name (number n) = IsLawful n
  FineOf s name (text r) = TextFine s (name r)
  FineOf s name (symbol r) = SymbolFine s (name r)
  FineOf s name (list rs) = Every (λ r. TextFine s (name r)) rs
  FineOf s name (object fs) = FineFields s name fs × Bounded fs

  pub FineFields : {R : Type 0} → KnownStrings → (R → ℕ) → Fields R → Type 0
  FineFields s name no_fields = Unit {0}
  FineFields s name (field key value rest) = KeyFine s (name key) × FineOf s name value
      × FineFields s name rest × NoKey s name (units_at s (name key)) rest

-- the keys of the members of an object
abbrev pub KeysFine : {R : Type 0} → KnownStrings → (R → ℕ) → Fields R → Type 0
KeysFine s name no_fields = Unit {0}
KeysFine s name (field key value rest) = KeyFine s (name key) × KeysFine s name rest

-- the keys of the members differ
abbrev pub KeysDiffer : {R : Type 0} → KnownStrings → (R → ℕ) → Fields R → Type 0
KeysDiffer s name no_fields = Unit {0}
KeysDiffer s name (field key value rest) = NoKey s name (units_at s (name key)) rest × KeysDiffer s name rest

abbrev pub IsFine : {F R : Type 0} → State F → (R → ℕ) → Item R → Type 0
IsFine s name v = FineOf (strings_of s) name (content_of v)
