-- What the scope of the code denotes.
use Rattle.eval_scopes.specs.Changes.{with_value, with_bound}
use Rattle.std.specs.Prelude.{◌≡◌, ℕ, zero, suc, ◌<◌, length, List, [], ◌∷◌, false, map, reverse, Option}
use Rattle.std.specs.Prelude.{slice_get, option_and_then, unwrap_or}
use Rattle.eval_scopes.specs.declared.binding_list.Binding.{Binding}
use Rattle.eval_scopes.specs.declared.frames.Frame.{Frame as CodeFrame}
use Rattle.eval_scopes.specs.declared.blocks.Blocks.{Blocks}
use Rattle.eval_scopes.specs.declared.scope.Scope.{Scope}
use Rattle.eval_scopes.specs.declared.scope.Place.{Place}
use Rattle.eval_scopes.specs.declared.scope.Place.TheVariants.{Top, Block}
use Rattle.eval_scopes.specs.Bindings.{Bound, BlockFrame, Bindings, bound_in, changed, meant, written}

abbrev pub bound_of : {T : Type 0} → Binding T → Bound T
bound_of b = record { name = b.name; constant = b.constant; value = b.value }

abbrev pub bounds_of : {T : Type 0} → List (Binding T) → List (Bound T)
bounds_of bs = map bound_of bs

abbrev pub frame_names : {T : Type 0} → CodeFrame T → List (List ℕ)
frame_names f = unwrap_or f.names []

abbrev pub frame_of : {T : Type 0} → CodeFrame T → BlockFrame T
frame_of f = record { names = frame_names f; bound = bounds_of f.bound }

-- the vector has the innermost block at its end
abbrev pub frames_of : {T : Type 0} → List (CodeFrame T) → List (BlockFrame T)
frames_of fs = reverse (map frame_of fs)

abbrev pub outsides_of : {T : Type 0} → List (CodeFrame T) → List ℕ
outsides_of fs = reverse (map (λ f. f.outside) fs)

-- so many blocks that have no frame, since they declare nothing, inside others
abbrev pub hollows : {T : Type 0} → ℕ → List (BlockFrame T) → List (BlockFrame T)
hollows zero fs = fs
hollows (suc n) fs = record { names = []; bound = [] } ∷ hollows n fs

-- blocks that have a frame, and as many as these numbers say right outside each
abbrev pub with_hollows : {T : Type 0} → List ℕ → List (BlockFrame T) → List (BlockFrame T)
with_hollows [] fs = fs
with_hollows (n ∷ ns) [] = []
with_hollows (n ∷ ns) (f ∷ fs) = f ∷ hollows n (with_hollows ns fs)

abbrev pub stacked : {T : Type 0} → List (CodeFrame T) → List (BlockFrame T)
stacked fs = with_hollows (outsides_of fs) (frames_of fs)

-- all blocks that were entered, the innermost first
abbrev pub blocks_of : {T : Type 0} → Blocks T → List (BlockFrame T)
blocks_of b = hollows b.hollow (stacked b.frames)

abbrev pub bindings_of : {T : Type 0} → Scope T → Bindings T
bindings_of s = record { blocks = blocks_of s.blocks; top = bounds_of s.top }

-- the binding at a place of a list, and the list with another value there
abbrev pub put : {T : Type 0} → List (Bound T) → ℕ → T → List (Bound T)
put [] i v = []
put (b ∷ bs) zero v = with_value b v ∷ bs
put (b ∷ bs) (suc i) v = b ∷ put bs i v

pub record IsAt {T : Type 0} (bs : List (Bound T)) (x : List ℕ) (i : ℕ) : Type 0 where
  pub within : i < length bs
  pub reads : bound_in bs x ≡ slice_get bs i
  pub writes : (v : T) → changed bs x v ≡ put bs i v

-- one binding alone, of this name, which is not constant: with another value it is a turn's
pub record IsOnly {T : Type 0} (bs : List (Bound T)) (x : List ℕ) : Type 0 where
  pub within : 0 < length bs
  pub again : (v : T) → put bs 0 v ≡ record { name = x; constant = false; value = v } ∷ []

-- a binding that was left at a place has this name
abbrev pub IsLeft : {T : Type 0} → List (Binding T) → ℕ → List ℕ → Type 0
IsLeft [] i x = ⊥
IsLeft (b ∷ bs) zero x = b.name ≡ x
IsLeft (b ∷ bs) (suc i) x = IsLeft bs i x

-- the same for a place of a scope
abbrev pub put_in : {T : Type 0} → List (BlockFrame T) → ℕ → ℕ → T → List (BlockFrame T)
put_in [] k i v = []
put_in (f ∷ fs) zero i v = with_bound f (put f.bound i v) ∷ fs
put_in (f ∷ fs) (suc k) i v = f ∷ put_in fs k i v

-- the blocks with another value at a place of a frame
abbrev pub put_in_frame : {T : Type 0} → Blocks T → ℕ → ℕ → T → List (BlockFrame T)
put_in_frame b k i v =
    hollows b.hollow (with_hollows (outsides_of b.frames) (reverse (put_in (map frame_of b.frames) k i v)))

abbrev pub frame_bound : {T : Type 0} → Option (BlockFrame T) → ℕ → Option (Bound T)
frame_bound f i = option_and_then (λ g. slice_get g.bound i) f

abbrev pub bound_at : {T : Type 0} → Scope T → Place → Option (Bound T)
bound_at s (Top i) = slice_get (bounds_of s.top) i
bound_at s (Block k i) = frame_bound (slice_get (map frame_of s.blocks.frames) k) i

abbrev pub put_at : {T : Type 0} → Scope T → Place → T → Bindings T
put_at s (Top i) v = record { blocks = blocks_of s.blocks; top = put (bounds_of s.top) i v }
put_at s (Block k i) v = record { blocks = put_in_frame s.blocks k i v; top = bounds_of s.top }

abbrev pub InBlock : {T : Type 0} → List (CodeFrame T) → ℕ → ℕ → Type 0
InBlock [] k i = ⊥
InBlock (f ∷ fs) zero i = i < length f.bound
InBlock (f ∷ fs) (suc k) i = InBlock fs k i

abbrev pub IsPlaceIn : {T : Type 0} → Scope T → Place → Type 0
IsPlaceIn s (Top i) = i < length s.top
IsPlaceIn s (Block k i) = InBlock s.blocks.frames k i

pub record IsPlace {T : Type 0} (s : Scope T) (x : List ℕ) (p : Place) : Type 0 where
  pub within : IsPlaceIn s p
  pub reads : meant (bindings_of s) x ≡ bound_at s p
  pub writes : (v : T) → written (bindings_of s) x v ≡ put_at s p v
