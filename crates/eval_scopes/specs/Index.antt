-- Where the names of each key begin, by which a name is found among many without a look at all of them.
use Rattle.std.specs.Prelude.{◌≡◌, ℕ, ◌<◌, ◌≤◌, List, length, map, slice_get, Option, Some, None, bytes_eq}
use Rattle.std.specs.Prelude.{false}
use Rattle.std.specs.Ordering.{nat_cmp}
use Rattle.std.specs.Map.{lookup}
use Rattle.std.specs.BTreeMap.{is_at}
use Rattle.eval_tree.specs.Keys.{key_of}
use Rattle.eval_scopes.specs.declared.binding_list.Binding.{Binding}

abbrev pub binding_names : {T : Type 0} → List (Binding T) → List (List ℕ)
binding_names bs = map (λ b. b.name) bs

-- as many names are looked at one after another
abbrev pub few : ℕ
few = 8

-- of the names before place i but for the first few, none has the key
abbrev pub NoneBefore : List (List ℕ) → ℕ → ℕ → Type 0
NoneBefore ns k i = (j : ℕ) (n : List ℕ) → few ≤ j → j < i → slice_get ns j ≡ Some n → key_of n ≡ k → ⊥

-- of the names before place m, those of a key are from this place on, or there is none; the first few are
-- left out
abbrev pub StandFrom : List (List ℕ) → ℕ → ℕ → Option ℕ → Type 0
StandFrom ns k m (Some i) = (i ≤ length ns) × NoneBefore ns k i
StandFrom ns k m None = NoneBefore ns k m

abbrev pub IsIndexTo : List (ℕ × ℕ) → List (List ℕ) → ℕ → Type 0
IsIndexTo first ns m = (k : ℕ) → StandFrom ns k m (lookup (is_at (nat_cmp k)) first)

abbrev pub IsIndex : List (ℕ × ℕ) → List (List ℕ) → Type 0
IsIndex first ns = IsIndexTo first ns (length ns)

-- none of the first i names is this one
abbrev pub NoneAmong : List (List ℕ) → List ℕ → ℕ → Type 0
NoneAmong ns x i = (j : ℕ) (n : List ℕ) → j < i → slice_get ns j ≡ Some n → bytes_eq n x ≡ false

-- none of the first i bindings has the name
abbrev pub NoneNamed : {T : Type 0} → List (Binding T) → List ℕ → ℕ → Type 0
NoneNamed {T} bs x i = (j : ℕ) (c : Binding T) → j < i → slice_get bs j ≡ Some c → bytes_eq c.name x ≡ false
