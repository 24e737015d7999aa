-- The frames that the walk for a name may leave out.
use Rattle.std.proofs.Common.{arith, ◌≡◌, ℕ, ◌+◌, ◌-◌, ◌<◌, ◌≤◌, zero, suc, true, false, Bool, List, [], ◌∷◌, ◌++◌, length, map, refl, ap, sym, ◌∙◌, subst}
use Rattle.std.proofs.Common.{if◌then◌else◌, Option, Some, None, slice_get, get_or, min, set, take, bytes_eq, inl, inr}
use Rattle.std.specs.Prelude.{OnOk, OnErr, Result, Ok, Err, unwrap_or}
use Rattle.std.proofs.lemmas.Bool.Decides.{leb_tells}
use Rattle.std.proofs.lemmas.List.{map-append}
use Rattle.std.proofs.lemmas.Slice.Eq.{bytes_eq-Decides}
use Rattle.eval_tree.specs.Keys.{key_of}
use Rattle.eval_scopes.specs.declared.binding_list.Binding.{Binding}
use Rattle.eval_scopes.specs.declared.frames.Frame.{Frame as CodeFrame}
use Rattle.eval_scopes.specs.Bindings.{Bound, BlockFrame, bound_in, is_among}
use Rattle.eval_scopes.specs.Index.{binding_names}
use Rattle.eval_scopes.specs.Seen.{bounds_of, frame_of, put}
use Rattle.eval_scopes.specs.Marks.{mark_number}
use Rattle.eval_scopes.specs.Starts.{KeepsReach, ReachesTo, IsPast, AreStarts, AreFrames}
use Rattle.eval_scopes.proofs.Indexes.{bounds_names, false_unless, names_put, none_among}
use Rattle.eval_scopes.proofs.Places.{one_more, Sought, sought_all, sought_on}
use Rattle.eval_scopes.proofs.Stacked.{length_taken, set_next, set_taken}

-- what a part of a list has, a longer one has
get_longer : {X : Type 0} (n m : ℕ) (xs : List X) (k : ℕ) (y : X) → n ≤ m → slice_get (take n xs) k ≡ Some y → slice_get (take m xs) k ≡ Some y
get_longer zero m xs k y l e = cc
get_longer (suc n) zero xs k y l e = absurd (omega (arith, l))
get_longer (suc n) (suc m) [] k y l e = cc
get_longer (suc n) (suc m) (x ∷ xs) zero y l e = e
get_longer (suc n) (suc m) (x ∷ xs) (suc k) y l e = get_longer n m xs k y (omega (arith, l)) e

got_inside : {X : Type 0} (xs : List X) (k : ℕ) (y : X) → slice_get xs k ≡ Some y → k < length xs
got_inside [] k y e = cc
got_inside (x ∷ xs) zero y e = omega arith
got_inside (x ∷ xs) (suc k) y e = omega (arith, got_inside xs k y e)

-- what holds of each of a list, and of one more behind it
all_and_one : {X : Type 0} (P : ℕ → X → Type 0) (xs : List X) (y : X) → ((k : ℕ) (z : X) → slice_get xs k ≡ Some z → P k z) → P
    (length xs) y → (k : ℕ) (z : X) → slice_get (xs ++ y ∷ []) k ≡ Some z → P k z
all_and_one P [] y h p zero z e = subst (λ q. P 0 q) (cc e) p
all_and_one P [] y h p (suc k) z e = cc
all_and_one P (x ∷ xs) y h p zero z e = h 0 z e
all_and_one P (x ∷ xs) y h p (suc k) z e = all_and_one (λ j w. P (suc j) w) xs y (λ j w g. h (suc j) w g) p k z e

-- what holds of each of a list, where another takes the place of one
all_but_one : {X : Type 0} (P : ℕ → X → Type 0) (xs : List X) (i : ℕ) (x y : X) → x ≡ get_or xs i x → (P i x → P i y) →
    ((k : ℕ) (z : X) → slice_get xs k ≡ Some z → P k z) → (k : ℕ) (z : X) → slice_get (set xs i y) k ≡ Some z → P k z
all_but_one P [] i x y p f h k z e = cc
all_but_one P (w ∷ xs) zero x y p f h zero z e = subst (λ q. P 0 q) (cc e) (f (h 0 x (cc p)))
all_but_one P (w ∷ xs) zero x y p f h (suc k) z e = h (suc k) z e
all_but_one P (w ∷ xs) (suc i) x y p f h zero z e = h 0 z e
all_but_one P (w ∷ xs) (suc i) x y p f h (suc k) z e = all_but_one (λ j v. P (suc j) v) xs i x y p f (λ j v g. h (suc j) v g) k z e

-- what a part of a list has at a place, if anything
get_part : {X : Type 0} (n : ℕ) (xs : List X) (k : ℕ) (y : X) → y ≡ get_or xs k y → y ≡ get_or (take n xs) k y
get_part zero xs k y e = refl
get_part (suc n) [] k y e = refl
get_part (suc n) (x ∷ xs) zero y e = e
get_part (suc n) (x ∷ xs) (suc k) y e = get_part n xs k y e

some_get : {X : Type 0} (xs : List X) (k : ℕ) → k < length xs → (y : X) × (slice_get xs k ≡ Some y) × (y ≡ get_or xs k y)
some_get [] k l = absurd (omega (arith, l))
some_get (x ∷ xs) zero l = (x, refl, refl)
some_get (x ∷ xs) (suc k) l = some_get xs k (omega (arith, l))

first_false : (t a : Bool) → (if t then true else a) ≡ false → t ≡ false
first_false true a e = e
first_false false a e = refl

rest_false : (t a : Bool) → (if t then true else a) ≡ false → a ≡ false
rest_false true a e = cc
rest_false false a e = e

-- where the walk reached, it still does
reach_kept : (before after : List ℕ) (key m k : ℕ) → KeepsReach before after m → k < m → mark_number after key ≤ k → mark_number before key ≤ k
reach_kept before after key m k h l w = elim (leb_tells (mark_number before key) k) [
  | inl q ↦ q.1
  | inr q ↦ (let r = h key (k + 1) (omega (arith, l)) (omega (arith, q.1)) in absurd (omega (arith, r, w)))
]

-- a name that no name with so great a start is
reached_not : (counts : List ℕ) (n x : List ℕ) (m k : ℕ) → m ≤ mark_number counts (key_of n) → mark_number counts (key_of x) ≤ k → k < m → bytes_eq n x ≡ false
reached_not counts n x m k r w l = false_unless (bytes_eq n x) (λ t.
    let same : n ≡ x = (bytes_eq-Decides n x).0 t in
    let there : m ≤ mark_number counts (key_of x) = subst (λ (q : List ℕ). m ≤ mark_number counts (key_of q)) same r in
    omega (arith, there, w, l))

pub reached_none : (counts : List ℕ) (ns : List (List ℕ)) (x : List ℕ) (m k : ℕ) → ReachesTo counts ns m (length ns) → mark_number counts
    (key_of x) ≤ k → k < m → is_among ns x ≡ false
reached_none counts ns x m k h w l = none_among ns x (λ j n i g. reached_not counts n x m k (h j n i g) w l)

among_one_on : (t a b : Bool) → (if t then true else a) ≡ false → (a ≡ false → b ≡ false) → (if t then true else b) ≡ false
among_one_on true a b e h = e
among_one_on false a b e h = h e

among_one : (ns : List (List ℕ)) (n x : List ℕ) → is_among ns x ≡ false → bytes_eq n x ≡ false → is_among (ns ++ n ∷ []) x ≡ false
among_one [] n x e d = rw d refl
among_one (m ∷ ns) n x e d = among_one_on (bytes_eq m x) (is_among ns x) (is_among (ns ++ n ∷ []) x) e (λ q. among_one ns n x q d)

-- one more name is marked
pub reaches_next : (before counts after : List ℕ) (ns : List (List ℕ)) (m i key : ℕ) (n : List ℕ) → i < length ns → n ≡ get_or ns i n → key ≡ key_of n →
    m ≤ mark_number after key → KeepsReach counts after m → ReachesTo counts ns m i × KeepsReach before counts m → ReachesTo after ns m (i + 1) × KeepsReach before after m
reaches_next before counts after ns m i key n l p e r h t = (
  one_more (λ x. m ≤ mark_number after (key_of x)) ns i n l p (subst (λ (q : ℕ). m ≤ mark_number after q) e r)
      (λ j x w g. h (key_of x) m (omega arith) (t.0 j x w g)),
  λ k d w s. h k d w (t.1 k d w s),
)

module _ {T : Type 0} where
  -- a walk that begins further in
  pub starts_kept : (before after : List ℕ) (m : ℕ) (fs : List (CodeFrame T)) → length fs ≤ m → KeepsReach before after m → AreStarts before fs → AreStarts after fs
  starts_kept before after m fs l h s = λ k f g x w. s k f g x (reach_kept before after (key_of x) m k h (omega (arith, l, got_inside fs k f g)) w)

  -- the frames that were entered stay, before others
  pub frames_kept : (before after : List ℕ) (n m : ℕ) (all more : List (CodeFrame T)) → take n more ≡ take n all → n ≤ length more → n ≤ m → KeepsReach before after m →
      AreFrames all n before → AreFrames more n after
  frames_kept before after n m all more e w l h s = record {
    within = w;
    starts = subst (λ (q : List (CodeFrame T)). AreStarts after q) (sym e)
        (starts_kept before after m (take n all) (omega (arith, l, length_taken n all s.within)) h s.starts);
  }

  pub frames_stay : (counts : List ℕ) (n : ℕ) (all more : List (CodeFrame T)) → take n more ≡ take n all → n ≤ length more → AreFrames all n counts → AreFrames more n counts
  frames_stay counts n all more e w s = frames_kept counts counts n n all more e w (omega arith) (λ k m l r. r) s

  -- fewer frames
  pub starts_taken : (counts : List ℕ) (n m : ℕ) (fs : List (CodeFrame T)) → n ≤ m → AreStarts counts (take m fs) → AreStarts counts (take n fs)
  starts_taken counts n m fs l s = λ k f g x w. s k f (get_longer n m fs k f l g) x w

  -- frames with the same names
  past_same : (f g : CodeFrame T) (x : List ℕ) → g.names ≡ f.names → binding_names g.bound ≡ binding_names f.bound → IsPast f x → IsPast g x
  past_same f g x m b p = record {
    undeclared = ap (λ (q : Option (List (List ℕ))). is_among (unwrap_or q []) x) m ∙ p.undeclared;
    unbound = ap (λ (q : List (List ℕ)). is_among q x) b ∙ p.unbound;
  }

  pub starts_set : (counts : List ℕ) (n : ℕ) (fs : List (CodeFrame T)) (k i : ℕ) (v : T) (f g : CodeFrame T) → k < length fs → f ≡ get_or fs k
      f → g.names ≡ f.names → bounds_of g.bound ≡ put (bounds_of f.bound) i v → AreStarts counts (take n fs) → AreStarts counts (take n (set fs k g))
  starts_set counts n fs k i v f g l p m e s =
      let names : binding_names g.bound ≡ binding_names f.bound = names_put f.bound g.bound i v e in
      let step : ((x : List ℕ) → mark_number counts (key_of x) ≤ k → IsPast f x) → (x : List ℕ) → mark_number counts (key_of x) ≤ k → IsPast g x =
      λ q x w. past_same f g x m names (q x w) in
      subst (λ (q : List (CodeFrame T)). AreStarts counts q) (sym (set_taken n fs k g))
      (all_but_one (λ j z. (x : List ℕ) → mark_number counts (key_of x) ≤ j → IsPast z x) (take n fs) k f g (get_part n fs k f p) step s)

  -- a frame of which the names are known
  past_of : (g : CodeFrame T) (f : BlockFrame T) (x : List ℕ) → frame_of g ≡ f → is_among f.names x ≡ false → is_among (map (λ b. b.name) f.bound) x ≡ false → IsPast g x
  past_of g f x e d b = record {
    undeclared = ap (λ (q : BlockFrame T). is_among q.names x) e ∙ d;
    unbound = ap (λ (q : List (List ℕ)). is_among q x) (bounds_names g.bound ∙ ap (λ (q : BlockFrame T). map (λ b. b.name) q.bound) e) ∙ b;
  }

  -- one more frame
  starts_next : (before after : List ℕ) (fs : List (CodeFrame T)) (k : ℕ) (g : CodeFrame T) → k < length fs → KeepsReach before after (k + 1) → AreStarts
      before (take k fs) → ((x : List ℕ) → mark_number after (key_of x) ≤ k → IsPast g x) → AreStarts after (take (k + 1) (set fs k g))
  starts_next before after fs k g l h s p =
      let many : length (take k fs) ≡ k = length_taken k fs (omega (arith, l)) in
      let here : (x : List ℕ) → mark_number after (key_of x) ≤ length (take k fs) → IsPast g x = λ x w. p x (omega (arith, w, many)) in
      let all : AreStarts after (take k fs ++ g ∷ []) = all_and_one (λ j f. (x : List ℕ) → mark_number after (key_of x) ≤ j → IsPast f x) (take k fs) g
      (starts_kept before after (k + 1) (take k fs) (omega (arith, many)) h s) here in
      let m : suc k ≡ k + 1 = omega arith in
      subst (λ (q : List (CodeFrame T)). AreStarts after q) (sym (set_next fs k g l) ∙ ap (λ (q : ℕ). take q (set fs k g)) m) all

  pub starts_entered : (before after : List ℕ) (fs : List (CodeFrame T)) (k : ℕ) (g : CodeFrame T) (ns : List (List ℕ)) → k < length fs → frame_of g ≡ record { names = ns; bound = [] } →
      KeepsReach before after (k + 1) → ReachesTo after ns (k + 1) (length ns) → AreStarts before (take k fs) → AreStarts after (take (k + 1) (set fs k g))
  starts_entered before after fs k g ns l e h r s = starts_next before after fs k g l h s (λ x w.
      past_of g (record { names = ns; bound = [] }) x e (reached_none after ns x (k + 1) k r w (omega arith)) refl)

  pub starts_turned : {E : Type 0} (t : Result (Unit {0}) E) (before after : List ℕ) (fs : List (CodeFrame T)) (k : ℕ) (g : CodeFrame T) (n : List ℕ) (v : T) → k < length fs →
      OnOk t (frame_of g ≡ record { names = []; bound = record { name = n; constant = false; value = v } ∷ [] }) →
      KeepsReach before after (k + 1) → k + 1 ≤ mark_number after (key_of n) → AreStarts before (take k fs) → OnOk t (AreStarts after (take (k + 1) (set fs k g)))
  starts_turned (Ok u) before after fs k g n v l e h r s = starts_next before after fs k g l h s (λ x w.
      past_of g (record { names = []; bound = record { name = n; constant = false; value = v } ∷ [] }) x e refl
      (rw (reached_not after n x (k + 1) k r w (omega arith)) refl))
  starts_turned (Err u) before after fs k g n v l e h r s = tt

  past_declared : {E : Type 0} (t : Result (Unit {0}) E) (f g : CodeFrame T) (b : Bound T) (x : List ℕ) → g.names ≡ f.names →
      OnOk t (bounds_of g.bound ≡ bounds_of f.bound ++ b ∷ []) → OnErr t (g.bound ≡ f.bound) → bytes_eq b.name x ≡ false → IsPast f x → IsPast g x
  past_declared (Ok o) f g b x m e u d p =
      let names : binding_names g.bound ≡ binding_names f.bound ++ b.name ∷ [] =
      bounds_names g.bound
      ∙ (ap (λ (q : List (Bound T)). map (λ c. c.name) q) e
      ∙ (map-append (λ (c : Bound T). c.name) (bounds_of f.bound) (b ∷ [])
      ∙ ap (λ q. q ++ b.name ∷ []) (sym (bounds_names f.bound)))) in
      record {
        undeclared = ap (λ (q : Option (List (List ℕ))). is_among (unwrap_or q []) x) m ∙ p.undeclared;
        unbound = ap (λ (q : List (List ℕ)). is_among q x) names ∙ among_one (binding_names f.bound) b.name x p.unbound d;
      }
  past_declared (Err o) f g b x m e u d p = past_same f g x m (ap (λ (q : List (Binding T)). binding_names q) u) p

  -- one more binding of the last frame
  pub starts_declared : {E : Type 0} (t : Result (Unit {0}) E) (before after : List ℕ) (fs : List (CodeFrame T)) (k : ℕ) (f g : CodeFrame T) (b : Bound T) → k < length fs → f ≡ get_or fs k f →
      g.names ≡ f.names → OnOk t (bounds_of g.bound ≡ bounds_of f.bound ++ b ∷ []) → OnErr t (g.bound ≡ f.bound) → KeepsReach before after (k + 1) →
      k + 1 ≤ mark_number after (key_of b.name) → AreStarts before (take (k + 1) fs) → AreStarts after (take (k + 1) (set fs k g))
  starts_declared t before after fs k f g b l p m e u h r s =
      let many : length (take (k + 1) fs) ≡ k + 1 = length_taken (k + 1) fs (omega (arith, l)) in
      let old : AreStarts after (take (k + 1) fs) = starts_kept before after (k + 1) (take (k + 1) fs) (omega (arith, many)) h s in
      let step : ((x : List ℕ) → mark_number after (key_of x) ≤ k → IsPast f x) → (x : List ℕ) → mark_number after (key_of x) ≤ k → IsPast g x =
      λ q x w. past_declared t f g b x m e u (reached_not after b.name x (k + 1) k r w (omega arith)) (q x w) in
      subst (λ (q : List (CodeFrame T)). AreStarts after q) (sym (set_taken (k + 1) fs k g))
      (all_but_one (λ j z. (x : List ℕ) → mark_number after (key_of x) ≤ j → IsPast z x) (take (k + 1) fs) k f g (get_part (k + 1) fs k f p) step old)

  -- the walk begins at the start of its key, or at the innermost frame
  pub past_from : (counts : List ℕ) (n : ℕ) (all fs : List (CodeFrame T)) (k : ℕ) (f : CodeFrame T) (x : List ℕ) (key r : ℕ) → take n all ≡ fs → AreFrames all n counts →
      r ≡ min n (mark_number counts key) → r ≤ k → slice_get fs k ≡ Some f → key_of x ≡ key → IsPast f x
  past_from counts n all fs k f x key r v h e l s q =
      let there : slice_get (take n all) k ≡ Some f = subst (λ (o : List (CodeFrame T)). slice_get o k ≡ Some f) (sym v) s in
      let within : k < n = omega (arith, got_inside (take n all) k f there, length_taken n all h.within) in
      let w : mark_number counts key ≤ k = omega (arith, within, e, l) in
      h.starts k f there x (subst (λ (o : ℕ). mark_number counts o ≤ k) (sym q) w)

  -- the frames from a place on say nothing of a name
  unbound_none : (bs : List (Binding T)) (x : List ℕ) → is_among (binding_names bs) x ≡ false → bound_in (bounds_of bs) x ≡ None
  unbound_none [] x e = refl
  unbound_none (b ∷ bs) x e = rw (first_false (bytes_eq b.name x) (is_among (binding_names bs) x) e)
      (unbound_none bs x (rest_false (bytes_eq b.name x) (is_among (binding_names bs) x) e))

  sought_down : (fs : List (CodeFrame T)) (top : List (Bound T)) (x : List ℕ) (d n : ℕ) → n + d ≡ length fs →
      ((k : ℕ) (f : CodeFrame T) → n ≤ k → slice_get fs k ≡ Some f → IsPast f x) → Sought fs top x n
  sought_down fs top x zero n e h = sought_all fs top x n (omega (arith, e))
  sought_down fs top x (suc d) n e h =
      let t = some_get fs n (omega (arith, e)) in
      let p = h n t.0 (omega arith) t.1 in
      sought_on fs top x n t.0 (omega (arith, e)) t.2 (sought_down fs top x d (suc n) (omega (arith, e)) (λ k f w g. h k f (omega (arith, w)) g))
      (unbound_none t.0.bound x p.unbound) p.undeclared

  pub sought_from : (fs : List (CodeFrame T)) (top : List (Bound T)) (x : List ℕ) (n : ℕ) → n ≤ length fs →
      ((k : ℕ) (f : CodeFrame T) → n ≤ k → slice_get fs k ≡ Some f → IsPast f x) → Sought fs top x n
  sought_from fs top x n l h = sought_down fs top x (length fs - n) n (omega (arith, l)) h
