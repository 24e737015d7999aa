-- Strings of the table by their slots: what is answered, and how often which slot is loaded.
use Rattle.std.specs.Prelude.{◌≡◌, ◌≢◌, ℕ, ◌<◌, List, [], ◌∷◌, Option, Some, None}
use Rattle.std.specs.FinMap.{get}
use Rattle.heap_rule.specs.declared.view.View.{View}
use Rattle.heap_rule.specs.Maps.{Has}
use Rattle.heap_rule.specs.Paths.{rank}
use Rattle.heap_rule.specs.Sound.{EachLive}
use Rattle.heap_intern.specs.Answers.{IsFixed, UsesNothing}
use Rattle.heap_intern.specs.Goes.{AddsCalls, LoadsAlone}
use Rattle.heap_intern.specs.SlotLoads.{counted_on, loads_at}

-- The string i, which is in slot k, was adopted: its units are known, it is a fixed Flat, and the history has
-- one call more, as if these units had been interned. Nothing is used.
pub record IsAdopted (v w : View) (k i : ℕ) : Type 0 where
  pub units : List ℕ
  pub goes : AddsCalls v w ((units, i) ∷ [])
  pub nothing : UsesNothing v w
  pub fixed : IsFixed w units i
  pub stands : Has w.slots k i

-- The string in slot k is answered and adopted; or none, where the slot isn't known to be used afterwards.
abbrev pub AdoptsSlot : View → View → ℕ → Option ℕ → Type 0
AdoptsSlot v w k (Some i) = IsAdopted v w k i
AdoptsSlot v w k None = LoadsAlone v w × (get w.slots k ≡ None)

-- how often the slot is loaded: once, and once more where it has a string, whose call enters the history
abbrev pub adopting_loads : Option ℕ → ℕ
adopting_loads None = 1
adopting_loads (Some i) = 2

-- between two views slot k was loaded n times, and no other slot was
pub record LoadsHere (v w : View) (k n : ℕ) : Type 0 where
  pub here : loads_at w k ≡ counted_on (loads_at v k) n
  pub others : (j : ℕ) → j ≢ k → loads_at w j ≡ loads_at v j

-- between two views no slot behind slot k on the path of the units us was loaded
abbrev pub LoadsNoneBehind : View → View → List ℕ → ℕ → Type 0
LoadsNoneBehind v w us k = (j : ℕ) → rank us v.sizes.slots k < rank us v.sizes.slots j
    → loads_at w j ≡ loads_at v j

-- What two live views have in one slot is one id, and what they know of its units is the same.
abbrev pub AreOneInEachSlot : List View → Type 0
AreOneInEachSlot views = EachLive views (λ _ v. EachLive views (λ _ w. (k i j : ℕ) → Has v.slots k i
    → Has w.slots k j → (i ≡ j) × ((us ws : List ℕ) → Has v.units i us → Has w.units j ws → us ≡ ws)))
