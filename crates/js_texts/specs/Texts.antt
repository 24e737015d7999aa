-- Several strings of a store, one after another.
use Rattle.std.specs.Prelude.{ℕ, ◌+◌, List, [], ◌∷◌, map, length, Option, None, Some, Result, Ok, Err}
use Rattle.js_store.specs.State.{State, IsKnown, IsSettled, text}
use Rattle.js_store.specs.Rows.{settle_words}
use Rattle.js_store.specs.declared.faults.StoreFault.{StoreFault}
use Rattle.js_store.specs.declared.faults.StoreFault.TheVariants.{Full, Memory}

abbrev pub known_texts : {F R : Type 0} → State F → (R → ℕ) → List R → List (List ℕ)
known_texts s name rs = map (λ r. text s (name r)) rs

-- every element is so
abbrev pub Every : {A : Type 0} → (A → Type 0) → List A → Type 0
Every P [] = Unit {0}
Every P (x ∷ xs) = P x × Every P xs

abbrev pub AllKnown : {F R : Type 0} → State F → (R → ℕ) → List R → Type 0
AllKnown s name rs = Every (λ r. IsKnown s (name r)) rs

abbrev pub AllSettled : {F R : Type 0} → State F → (R → ℕ) → List R → Type 0
AllSettled s name rs = Every (λ r. IsSettled s (name r)) rs

-- what settling strings uses at most
abbrev pub settle_most : {F R : Type 0} → State F → (R → ℕ) → List R → ℕ
settle_most s name [] = 0
settle_most s name (r ∷ rs) =
    settle_words (s.settled (name r)) (length (text s (name r))) + settle_most s name rs

-- the report of a call that may find no memory itself: its own lack of memory says nothing of the store
abbrev pub full_only : StoreFault → Option StoreFault
full_only (Full r) = Some (Full r)
full_only Memory = None

abbrev pub full_fault_of : {R : Type 0} → Result R StoreFault → Option StoreFault
full_fault_of (Ok r) = None
full_fault_of (Err f) = full_only f
