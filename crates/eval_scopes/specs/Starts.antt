-- Helpers: no public contract reaches these definitions.
-- Where the walk for a name begins: no frame further in has it.
use Rattle.std.specs.Prelude.{◌≡◌, ℕ, ◌<◌, ◌≤◌, List, [], false, length, slice_get, take}
use Rattle.std.specs.Prelude.{unwrap_or, Some}
use Rattle.eval_tree.specs.Keys.{key_of}
use Rattle.eval_scopes.specs.declared.frames.Frame.{Frame as CodeFrame}
use Rattle.eval_scopes.specs.Bindings.{is_among}
use Rattle.eval_scopes.specs.Index.{binding_names}
use Rattle.eval_scopes.specs.Marks.{mark_number}

-- where the walk reached up to m frames, it still does
abbrev pub KeepsReach : List ℕ → List ℕ → ℕ → Type 0
KeepsReach before after m = (key n : ℕ) → n ≤ m → n ≤ mark_number before key → n ≤ mark_number after key

-- for each of the first i names m frames are walked
abbrev pub ReachesTo : List ℕ → List (List ℕ) → ℕ → ℕ → Type 0
ReachesTo counts ns m i =
    (j : ℕ) (n : List ℕ) → j < i → slice_get ns j ≡ Some n → m ≤ mark_number counts (key_of n)

-- a frame neither declares a name nor has it bound
pub record IsPast {T : Type 0} (f : CodeFrame T) (x : List ℕ) : Type 0 where
  pub undeclared : is_among (unwrap_or f.names []) x ≡ false
  pub unbound : is_among (binding_names f.bound) x ≡ false

-- no frame from this one on has the name
abbrev pub ArePast : {T : Type 0} → List (CodeFrame T) → ℕ → List ℕ → Type 0
ArePast {T} fs i x = (k : ℕ) (f : CodeFrame T) → i ≤ k → slice_get fs k ≡ Some f → IsPast f x

-- the frame k says nothing of names for which no more than k are walked
abbrev pub AreStarts : {T : Type 0} → List ℕ → List (CodeFrame T) → Type 0
AreStarts {T} counts fs = (k : ℕ) (f : CodeFrame T) → slice_get fs k ≡ Some f → (x : List ℕ)
    → mark_number counts (key_of x) ≤ k → IsPast f x

-- of all frames so many are entered, and these are walked
pub record AreFrames {T : Type 0} (all : List (CodeFrame T)) (entered : ℕ) (counts : List ℕ) : Type 0 where
  pub within : entered ≤ length all
  pub starts : AreStarts counts (take entered all)
