-- The string table: the path on which a list of units is looked for in it, and what the calls that intern may
-- have answered.
use Rattle.std.specs.Prelude.{◌≡◌, ℕ, zero, suc, ◌+◌, ◌-◌, ◌%◌, List, [], ◌∷◌, ◌++◌, Contains}
use Rattle.js_units.specs.Lanes.{hash_of}

-- n slots from k upwards with wrap
abbrev pub path_from : ℕ → ℕ → ℕ → List ℕ
path_from slots k zero = []
path_from slots k (suc n) = k % slots ∷ path_from slots (suc k) n

-- all slots, from the hash of u modulo their number upwards with wrap
abbrev pub path : List ℕ → ℕ → List ℕ
path u slots = path_from slots (hash_of u % slots) slots

-- the place of slot k on that path, counted from 0
abbrev pub rank : List ℕ → ℕ → ℕ → ℕ
rank u slots k = (k + (slots - hash_of u % slots)) % slots

-- the slot of rank r on it
abbrev pub path_slot : List ℕ → ℕ → ℕ → ℕ
path_slot u slots r = (hash_of u % slots + r) % slots

-- the pairs of units and id that calls of intern had and gave, the oldest first
abbrev pub Calls : Type 0
Calls = List (List ℕ × ℕ)

-- the calls of `front` are the first ones of `whole`
abbrev pub StartsWith : Calls → Calls → Type 0
StartsWith whole front = (rest : Calls) × (whole ≡ front ++ rest)

-- two lists of calls give equal units one id and other units another
abbrev pub Agree : Calls → Calls → Type 0
Agree a b = (u w : List ℕ) (i k : ℕ) → Contains a (u, i) → Contains b (w, k)
    → (u ≡ w → i ≡ k) × (i ≡ k → u ≡ w)

-- no id has two lists of units, and no list of units two ids
abbrev pub IsLegal : Calls → Type 0
IsLegal calls = Agree calls calls
