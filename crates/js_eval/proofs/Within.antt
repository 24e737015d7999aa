-- A binding at a place of a scope whose values may be used.
use Rattle.std.proofs.Common.{◌≡◌, ℕ, zero, suc, List, [], ◌∷◌, ◌++◌, map, reverse, sym, subst, Some, slice_get}
use Rattle.std.proofs.lemmas.List.{reverse-append}
use Rattle.js_store.specs.State.{State}
use Rattle.js_texts.specs.Texts.{Every}
use Rattle.js_texts.proofs.Lists.{every_get}
use Rattle.js_item.specs.declared.item.Item.{Item}
use Rattle.js_item.specs.Fine.{IsFine}
use Rattle.eval_scopes.specs.declared.scope.Scope.{Scope}
use Rattle.eval_scopes.specs.declared.scope.Place.{Place}
use Rattle.eval_scopes.specs.declared.scope.Place.TheVariants.{Top, Block}
use Rattle.eval_scopes.specs.Bindings.{Bound, BlockFrame}
use Rattle.eval_scopes.specs.Seen.{bounds_of, frame_of, outsides_of, hollows, with_hollows, stacked, bindings_of, frame_bound, bound_at, put, put_in, put_at}
use Rattle.js_eval.specs.Seen.{BoundsFine, BindingsFine}

every_parts : {A : Type 0} (P : A → Type 0) (xs ys : List A) → Every P (xs ++ ys) → Every P xs × Every P ys
every_parts P [] ys h = (tt, h)
every_parts P (x ∷ xs) ys h = let k = every_parts P xs ys h.1 in ((h.0, k.0), k.1)

every_unreversed : {A : Type 0} (P : A → Type 0) (xs : List A) → Every P (reverse xs) → Every P xs
every_unreversed P [] h = tt
every_unreversed {A} P (x ∷ xs) h =
    let k = every_parts P (reverse xs) (x ∷ []) (subst (λ (q : List A). Every P q) (reverse-append (x ∷ []) xs) h) in
    (k.1.0, every_unreversed P xs k.0)

every_joined : {A : Type 0} (P : A → Type 0) (xs ys : List A) → Every P xs → Every P ys → Every P (xs ++ ys)
every_joined P [] ys h k = k
every_joined P (x ∷ xs) ys h k = (h.0, every_joined P xs ys h.1 k)

every_reversed : {A : Type 0} (P : A → Type 0) (xs : List A) → Every P xs → Every P (reverse xs)
every_reversed P [] h = tt
every_reversed {A} P (x ∷ xs) h = subst (λ (q : List A). Every P q) (sym (reverse-append (x ∷ []) xs)) (every_joined P (reverse xs) (x ∷ []) (every_reversed P xs h.1) (h.0, tt))

module _ {F R : Type 0} (s : State F) (name : R → ℕ) where
  abbrev AllBound : List (BlockFrame (Item R)) → Type 0
  AllBound fs = Every (λ f. BoundsFine s name f.bound) fs

  -- blocks without a frame have no values
  below_hollows : (n : ℕ) (fs : List (BlockFrame (Item R))) → AllBound (hollows n fs) → AllBound fs
  below_hollows zero fs h = h
  below_hollows (suc n) fs h = below_hollows n fs h.1

  among_hollows : (ns : List ℕ) (fs : List (BlockFrame (Item R))) → AllBound (with_hollows ns fs) → AllBound fs
  among_hollows [] fs h = h
  among_hollows (n ∷ ns) [] h = tt
  among_hollows (n ∷ ns) (f ∷ fs) h = (h.0, among_hollows ns fs (below_hollows n (with_hollows ns fs) h.1))

  over_hollows : (n : ℕ) (fs : List (BlockFrame (Item R))) → AllBound fs → AllBound (hollows n fs)
  over_hollows zero fs h = h
  over_hollows (suc n) fs h = (tt, over_hollows n fs h)

  and_hollows : (ns : List ℕ) (fs : List (BlockFrame (Item R))) → AllBound fs → AllBound (with_hollows ns fs)
  and_hollows [] fs h = h
  and_hollows (n ∷ ns) [] h = tt
  and_hollows (n ∷ ns) (f ∷ fs) h = (h.0, over_hollows n (with_hollows ns fs) (and_hollows ns fs h.1))

  framed : (scope : Scope (Item R)) → BindingsFine s name (bindings_of scope) → AllBound (map frame_of scope.blocks.frames)
  framed scope h =
      let b = scope.blocks in
      let fs : List (BlockFrame (Item R)) = map frame_of b.frames in
      every_unreversed (λ (f : BlockFrame (Item R)). BoundsFine s name f.bound) fs (among_hollows (outsides_of b.frames) (reverse fs) (below_hollows b.hollow (stacked b.frames) h.blocks))

  got_fine : (fs : List (BlockFrame (Item R))) (k i : ℕ) (b : Bound (Item R)) → Every (λ f. BoundsFine s name f.bound) fs → Some b ≡ frame_bound (slice_get fs k) i → IsFine s name b.value
  got_fine [] k i b h e = cc
  got_fine (f ∷ fs) zero i b h e = every_get (λ c. IsFine s name c.value) f.bound i b h.0 (sym e)
  got_fine (f ∷ fs) (suc k) i b h e = got_fine fs k i b h.1 e

  pub place_fine : (scope : Scope (Item R)) (p : Place) (b : Bound (Item R)) → BindingsFine s name (bindings_of scope) → Some b ≡ bound_at scope p → IsFine s name b.value
  place_fine scope (Top i) b h e = every_get (λ c. IsFine s name c.value) (bounds_of scope.top) i b h.top (sym e)
  place_fine scope (Block k i) b h e = got_fine (map frame_of scope.blocks.frames) k i b (framed scope h) e

  put_fine : (bs : List (Bound (Item R))) (i : ℕ) (v : Item R) → IsFine s name v → BoundsFine s name bs → BoundsFine s name (put bs i v)
  put_fine [] i v f h = tt
  put_fine (b ∷ bs) zero v f h = (f, h.1)
  put_fine (b ∷ bs) (suc i) v f h = (h.0, put_fine bs i v f h.1)

  put_in_fine : (fs : List (BlockFrame (Item R))) (k i : ℕ) (v : Item R) → IsFine s name v → Every (λ f. BoundsFine s name f.bound) fs → Every (λ f. BoundsFine s name f.bound) (put_in fs k i v)
  put_in_fine [] k i v f h = tt
  put_in_fine (g ∷ fs) zero i v f h = (put_fine g.bound i v f h.0, h.1)
  put_in_fine (g ∷ fs) (suc k) i v f h = (h.0, put_in_fine fs k i v f h.1)

  -- another value at a place
  pub put_at_fine : (scope : Scope (Item R)) (p : Place) (v : Item R) → IsFine s name v → BindingsFine s name (bindings_of scope) → BindingsFine s name (put_at scope p v)
  put_at_fine scope (Top i) v f h = record { blocks = h.blocks; top = put_fine (bounds_of scope.top) i v f h.top }
  put_at_fine scope (Block k i) v f h =
      let P : BlockFrame (Item R) → Type 0 = λ g. BoundsFine s name g.bound in
      let b = scope.blocks in
      let fs : List (BlockFrame (Item R)) = put_in (map frame_of b.frames) k i v in
      let fine : AllBound (reverse fs) = every_reversed P fs (put_in_fine (map frame_of b.frames) k i v f (framed scope h)) in
      record { blocks = over_hollows b.hollow (with_hollows (outsides_of b.frames) (reverse fs)) (and_hollows (outsides_of b.frames) (reverse fs) fine); top = h.top }
