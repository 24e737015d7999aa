-- As many slots are used as a history has different lists of units.
use Rattle.std.proofs.Common.{◌≡◌, ◌≢◌, ℕ, zero, suc, ◌+◌, ◌<◌, ◌≤◌, ◌⊎◌, inl, inr, ⊎_elim, Bool, List, [], ◌∷◌, map, length, refl, sym, ap, ◌∙◌, arith, Option}
use Rattle.std.proofs.Common.{Some, None, Decides, nat_eq, if◌then◌else◌}
use Rattle.std.specs.Prelude.{Contains, is_some}
use mathlib.Core.Logic.{dite}
use native.Mathlib.Decide.{ℕ_discrete}
use Rattle.std.proofs.lemmas.List.{length-map}
use Rattle.std.proofs.lemmas.Map.Made.{length-from_keys, length-le_from_is_member, is_member-Decides, IsDistinct-from_AllPairs}
use Rattle.std.proofs.lemmas.Bool.Decides.{same_from_decides, Decides-eqb}
use Rattle.std.proofs.lemmas.Map.Steps.{length-le_from_distinct_below}
use Rattle.std.specs.Bool.{Decides}
use Rattle.std.specs.List.{IsDistinct, AllPairs}
use Rattle.std.proofs.lemmas.List.Kept.{AllPairs-cons}
use Rattle.std.proofs.lemmas.List.Elements.{All-from_get_or}
use Rattle.std.specs.Map.{keys_of}
use Rattle.std.specs.Cmp.{IsEquivalence}
use Rattle.std.specs.Cmp.Lexicographic.{pointwise, bytes_decides, nat_list_eq_equiv}
use Rattle.heap_rule.specs.Paths.{Calls}
use Rattle.heap_intern.specs.Counting.{different, count_below}

-- lists without repetition of which each maps into the other, no two items to one, are of one length
module _ {X Y : Type 0} (eq : X → X → Bool) (eq' : Y → Y → Bool) (same : (a b : X) → Decides (eq a b) (a ≡ b)) (same' : (a b : Y) → Decides
    (eq' a b) (a ≡ b)) (laws : IsEquivalence eq) (laws' : IsEquivalence eq') where
  pub length_into : (xs : List X) (ys : List Y) (f : X → Y) → IsDistinct eq' (map f xs) → ((y : Y) → Contains (map f xs) y → Contains ys y) → length xs ≤ length ys
  length_into xs ys f d into = let m : length (map f xs) ≤ length ys = length-le_from_is_member laws' (map f xs) ys d
      (λ q h. (is_member-Decides same' ys q).1 (into q ((is_member-Decides same' (map f xs) q).0 h))) in
      let e : length (map f xs) ≡ length xs = length-map xs f in omega arith

  pub length_same : (xs : List X) (ys : List Y) (f : X → Y) (g : Y → X) → IsDistinct eq' (map f xs) → IsDistinct eq
      (map g ys) → ((y : Y) → Contains (map f xs) y → Contains ys y) → ((x : X) → Contains (map g ys) x → Contains xs x) → length xs ≡ length ys
  length_same xs ys f g d e into back = let a : length xs ≤ length ys = length_into xs ys f d into in
      let m : length (map g ys) ≤ length xs = length-le_from_is_member laws (map g ys) xs e (λ q h. (is_member-Decides same xs q).1 (back q ((is_member-Decides same (map g ys) q).0 h))) in
      let l : length (map g ys) ≡ length ys = length-map ys g in omega arith

-- the lists that stand at numbers below n
abbrev add_some : {X : Type 0} → Option X → List X → List X
add_some None xs = xs
add_some (Some x) xs = x ∷ xs

module _ {X : Type 0} (f : ℕ → Option X) where
  abbrev values_below : ℕ → List X
  values_below zero = []
  values_below (suc n) = add_some (f n) (values_below n)

  length_some : (o : Option X) (xs : List X) → length (add_some o xs) ≡ length xs + (if is_some o then 1 else 0)
  length_some None xs = omega arith
  length_some (Some x) xs = omega arith

  length_values : (n : ℕ) → length (values_below n) ≡ count_below (λ k. is_some (f k)) n
  length_values zero = refl
  length_values (suc n) = length_some (f n) (values_below n) ∙ ap (λ (x : ℕ). x + (if is_some (f n) then 1 else 0)) (length_values n)

  contains_some : (o : Option X) (xs : List X) (x : X) → Contains (add_some o xs) x → (o ≡ Some x) ⊎ Contains xs x
  contains_some None xs x c = inr c
  contains_some (Some y) xs x (zero, l, e) = inl (ap Some e)
  contains_some (Some y) xs x (suc k, l, e) = inr (k, omega arith, e)

  some_contains : (o : Option X) (xs : List X) (x : X) → (o ≡ Some x) ⊎ Contains xs x → Contains (add_some o xs) x
  some_contains None xs x (inl e) = absurd (cc)
  some_contains None xs x (inr c) = c
  some_contains (Some y) xs x (inl e) = let s : y ≡ x = cc in (0, omega arith, s)
  some_contains (Some y) xs x (inr c) = let l = c.1 in (suc c.0, omega arith, c.2)

  values_from : (n : ℕ) (x : X) → Contains (values_below n) x → (k : ℕ) × (k < n) × (f k ≡ Some x)
  values_from zero x c = let l = c.1 in absurd (omega arith)
  values_from (suc n) x c = ⊎_elim (λ e. (n, omega arith, e)) (λ d. let t = values_from n x d in let l = t.1 in (t.0, omega arith, t.2)) (contains_some (f n) (values_below n) x c)

  values_have : (n k : ℕ) (x : X) → k < n → f k ≡ Some x → Contains (values_below n) x
  values_have zero k x l e = absurd (omega arith)
  values_have (suc n) k x l e = dite (ℕ_discrete k n) (λ is. some_contains (f n) (values_below n) x (inl (ap f (sym is) ∙ e)))
      (λ ne. some_contains (f n) (values_below n) x (inr (values_have n k x (omega arith) e)))

module _ {X : Type 0} where
  abbrev AreApart : List X → Type 0
  AreApart xs = AllPairs (λ x y. x ≢ y) xs

  apart_some : (o : Option X) (xs : List X) → ((x : X) → o ≡ Some x → Contains xs x → ⊥) → AreApart xs → AreApart (add_some o xs)
  apart_some None xs n d = d
  apart_some (Some x) xs n d = AllPairs-cons (λ x y. x ≢ y) x xs (All-from_get_or (λ y. x ≢ y) xs x (λ k l e. n x refl (k, l, sym e))) d

  values_apart : (f : ℕ → Option X) (n : ℕ) → ((k l : ℕ) (x : X) → k < n → l < n → f k ≡ Some x → f l ≡ Some x → k ≡ l) → AreApart (values_below f n)
  values_apart f zero apart = λ i j d a b. absurd (omega arith)
  values_apart f (suc n) apart = apart_some (f n) (values_below f n) (λ x e c. let t = values_from f n x c in let l = t.1 in
      let is : n ≡ t.0 = apart n t.0 x (omega arith) (omega arith) e t.2 in omega arith)
      (values_apart f n (λ k l x a b e g. apart k l x (omega arith) (omega arith) e g))

-- numbers below m, no two of them equal, stand at no more than m places
pub used_below : (f : ℕ → Option ℕ) (n m : ℕ) → ((k l i : ℕ) → k < n → l < n → f k ≡ Some i → f l ≡ Some i → k ≡ l) →
    ((k i : ℕ) → k < n → f k ≡ Some i → i < m) → count_below (λ k. is_some (f k)) n ≤ m
used_below f n m apart below = let vs : List ℕ = values_below f n in let e = length_values f n in
    let w = length-le_from_distinct_below vs m (IsDistinct-from_AllPairs Decides-eqb vs (values_apart f n apart))
    (λ q h. let t = values_from f n q ((is_member-Decides Decides-eqb vs q).0 h) in below t.0 q t.1 t.2) in omega arith

-- the lists of a history
called : (h : Calls) (u : List ℕ) → Contains (keys_of h) u → (i : ℕ) × Contains h (u, i)
called [] u c = let l = c.1 in absurd (omega arith)
called (p ∷ ps) u (zero, l, e) = (p.1, (0, omega arith, (λ i. (e i, p.1))))
called (p ∷ ps) u (suc k, l, e) = let t = called ps u (k, omega arith, e) in let m = t.1.1 in (t.0, (suc t.1.0, omega arith, t.1.2))

call_listed : (h : Calls) (u : List ℕ) (i : ℕ) → Contains h (u, i) → Contains (keys_of h) u
call_listed [] u i c = let l = c.1 in absurd (omega arith)
call_listed (p ∷ ps) u i (zero, l, e) = (0, omega arith, ap (λ (q : List ℕ × ℕ). q.0) e)
call_listed (p ∷ ps) u i (suc k, l, e) = let t = call_listed ps u i (k, omega arith, e) in let m = t.1 in (suc t.0, omega arith, t.2)

-- f gives the units of the string in a slot: no list stands in two slots, each stands in a call, and that of each call stands in a slot
pub used_different : (f : ℕ → Option (List ℕ)) (n : ℕ) (h : Calls) → ((k l : ℕ) (u : List ℕ) → k < n → l < n → f k ≡ Some u → f l ≡ Some u → k ≡ l)
    → ((k : ℕ) (u : List ℕ) → k < n → f k ≡ Some u → (i : ℕ) × Contains h (u, i)) → ((u : List ℕ) (i : ℕ) → Contains h (u, i) → (k : ℕ) × (k < n) × (f k ≡ Some u))
    → count_below (λ k. is_some (f k)) n ≡ different h
unfolding different
used_different f n h apart into onto = let eq : List ℕ → List ℕ → Bool = pointwise nat_eq in let vs : List (List ℕ) = values_below f n in
    sym (length_values f n) ∙ length-from_keys nat_list_eq_equiv vs (keys_of h) (IsDistinct-from_AllPairs bytes_decides vs (values_apart f n apart))
    (λ q. same_from_decides _ _ (is_member-Decides bytes_decides vs q) (
      (λ m. let c = called h q ((is_member-Decides bytes_decides (keys_of h) q).0 m) in let t = onto q c.0 c.1 in values_have f n t.0 q t.1 t.2),
      (λ c. let t = values_from f n q c in let d = into t.0 q t.1 t.2 in (is_member-Decides bytes_decides (keys_of h) q).1 (call_listed h q d.0 d.1)),
    ))
