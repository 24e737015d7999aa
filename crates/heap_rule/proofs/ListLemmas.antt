-- Lists read by `get_elem?`, and sums over the live views.
use Rattle.std.proofs.Common.{◌≡◌, ◌≢◌, ℕ, zero, suc, ◌+◌, ◌<◌, ◌⊎◌, inl, inr, ⊎_elim, true, cond, List, [], ◌∷◌, length, get_or, set, sym, refl, ap, ◌∙◌, subst, arith}
use Rattle.std.specs.Prelude.{slice_get, Some}
use Rattle.std.proofs.lemmas.List.Sums.{sum_by-cons}
use mathlib.Core.Option.{some, some-injective, some-ne-none}
use lib.ListN.{get_elem?}
use Rattle.heap_rule.specs.declared.view.View.{View}
use Rattle.heap_rule.specs.Sound.{At, EachLive, of_live, total}

module _ {A : Type 0} where
  pub at_set : (l : List A) (i j : ℕ) (a b : A) → At (set l i a) j b → ((j ≡ i) × (a ≡ b)) ⊎ ((j ≢ i) × At l j b)
  at_set [] i j a b e = absurd (some-ne-none b (sym e))
  at_set (x ∷ xs) zero zero a b e = inl (refl, some-injective a b e)
  at_set (x ∷ xs) zero (suc j) a b e = inr ((λ h. omega arith), e)
  at_set (x ∷ xs) (suc i) zero a b e = inr ((λ h. omega arith), e)
  at_set (x ∷ xs) (suc i) (suc j) a b e = ⊎_elim (λ t. inl (ap suc t.0, t.1)) (λ t. let n = t.0 in inr ((λ h. n (omega arith)), t.1)) (at_set xs i j a b e)

  pub set_else : (l : List A) (i j : ℕ) (a : A) → j ≢ i → get_elem? (set l i a) j ≡ get_elem? l j
  set_else [] i j a n = refl
  set_else (x ∷ xs) zero zero a n = absurd (n refl)
  set_else (x ∷ xs) zero (suc j) a n = refl
  set_else (x ∷ xs) (suc i) zero a n = refl
  set_else (x ∷ xs) (suc i) (suc j) a n = set_else xs i j a (λ e. n (ap suc e))

  pub set_there : (l : List A) (i : ℕ) (a b : A) → At l i b → At (set l i a) i a
  set_there [] i a b h = absurd (some-ne-none b (sym h))
  set_there (x ∷ xs) zero a b h = refl
  set_there (x ∷ xs) (suc i) a b h = set_there xs i a b h

pub any_default : {A : Type 0} (l : List A) (i : ℕ) (d e : A) → i < length l → get_or l i d ≡ get_or l i e
any_default [] i d e h = absurd (omega arith)
any_default (x ∷ xs) zero d e h = refl
any_default (x ∷ xs) (suc i) d e h = any_default xs i d e (omega arith)

-- what holds of the new view and of each other live view holds of each
pub each_set : (P : ℕ → View → Type 0) (vs : List View) (j : ℕ) (w : View) → P j w → ((k : ℕ) (u : View) → k ≢ j → At vs k u → u.live ≡ true → P k u) → EachLive (set vs j w) P
each_set P vs j w mine others k u e l = ⊎_elim (λ (t : (k ≡ j) × (w ≡ u)). subst (λ (x : ℕ × View). P x.0 x.1) (λ i. (sym t.0 i, t.1 i)) mine)
    (λ (t : (k ≢ j) × At vs k u). others k u t.0 t.1 l) (at_set vs j k w u e)

pub of_live_true : (f : View → ℕ) (v : View) → v.live ≡ true → of_live f v ≡ f v
of_live_true f v l = ap (λ b. cond b (f v) 0) l

sums : (a b c d p q s t : ℕ) → a ≡ p + s → c ≡ q + t → p + s + b ≡ q + t + d → a + b ≡ c + d
sums a b c d p q s t e f h = omega arith

pub total_set : (f : View → ℕ) (vs : List View) (j : ℕ) (v w : View) → At vs j v → v.live ≡ true → w.live ≡ true → total f (set vs j w) + f v ≡ total f vs + f w
total_set f [] j v w e l m = absurd (some-ne-none v (sym e))
total_set f (x ∷ xs) zero v w e l m = let a : of_live f w ≡ f w = of_live_true f w m in let b : of_live f x ≡ f v = ap (of_live f) (some-injective x v e) ∙ of_live_true f v l in
    let c : total f (w ∷ xs) ≡ of_live f w + total f xs = sum_by-cons (of_live f) w xs in let d : total f (x ∷ xs) ≡ of_live f x + total f xs = sum_by-cons (of_live f) x xs in
    sums (total f (w ∷ xs)) (f v) (total f (x ∷ xs)) (f w) (of_live f w) (of_live f x) (total f xs) (total f xs) c d (omega arith)
total_set f (x ∷ xs) (suc j) v w e l m = let h : total f (set xs j w) + f v ≡ total f xs + f w = total_set f xs j v w e l m in
    sums (total f (x ∷ set xs j w)) (f v) (total f (x ∷ xs)) (f w) (of_live f x) (of_live f x) (total f (set xs j w)) (total f xs)
    (sum_by-cons (of_live f) x (set xs j w)) (sum_by-cons (of_live f) x xs) (omega arith)

module _ {A : Type 0} where
  pub at_get : (xs : List A) (j : ℕ) (x : A) → slice_get xs j ≡ Some x → At xs j x
  at_get [] j x e = absurd (cc)
  at_get (y ∷ ys) zero x e = let s : y ≡ x = cc in ap some s
  at_get (y ∷ ys) (suc j) x e = at_get ys j x e

  pub get_at : (xs : List A) (j : ℕ) (x : A) → At xs j x → slice_get xs j ≡ Some x
  get_at [] j x e = absurd (some-ne-none x (sym e))
  get_at (y ∷ ys) zero x e = ap Some (some-injective y x e)
  get_at (y ∷ ys) (suc j) x e = get_at ys j x e

  pub at_within : (xs : List A) (j : ℕ) (x : A) → At xs j x → j < length xs
  at_within [] j x e = absurd (some-ne-none x (sym e))
  at_within (y ∷ ys) zero x e = omega arith
  at_within (y ∷ ys) (suc j) x e = let h = at_within ys j x e in omega arith

  pub at_index : (xs : List A) (j : ℕ) (x d : A) → At xs j x → get_or xs j d ≡ x
  at_index [] j x d e = absurd (some-ne-none x (sym e))
  at_index (y ∷ ys) zero x d e = some-injective y x e
  at_index (y ∷ ys) (suc j) x d e = at_index ys j x d e
