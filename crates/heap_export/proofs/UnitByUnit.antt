-- Comparing unit by unit.
use Rattle.std.proofs.Common.{◌≡◌, ◌⊎◌, inl, inr, true, false, Some, None, ℕ, zero, suc, ◌+◌, ◌<◌, ◌≤◌, List, [], ◌∷◌, length, take, drop, get_or, drop-cons, ap, ap₂, sym, ◌∙◌, refl, arith}
use Rattle.std.specs.Prelude.{◌≢◌, ◌↔◌, ◌==◌, nat_lt, not}
use Rattle.std.proofs.lemmas.Bool.Decides.{nat_tests}
use Rattle.std.proofs.lemmas.Bool.{cases_lt, cond-true, cond-false, lt-ltb, le-ltb}
use Rattle.std.specs.declared.cmp.Ordering.{Ordering}
use Rattle.std.specs.declared.cmp.Ordering.TheVariants.{Less, Equal, Greater}
use Rattle.std.specs.Ordering.{nat_cmp, ordering_index, ordering_then}
use Rattle.std.proofs.lemmas.List.{drop_all, take_all}
use Rattle.js_search.specs.Order.{units_cmp}
use Rattle.heap_export.specs.Encoded.{past_latin1}

pub front : (us : List ℕ) (i : ℕ) → i < length us → drop i us ≡ get_or us i 0 ∷ drop (i + 1) us
front us i l = let e : suc i ≡ i + 1 = omega arith in drop-cons us i 0 l ∙ ap (λ n. get_or us i 0 ∷ drop n us) e

first_then : (us vs : List ℕ) (i : ℕ) → i < length us → i < length vs
    → units_cmp (drop i us) (drop i vs) ≡ ordering_then (nat_cmp (get_or us i 0) (get_or vs i 0)) (units_cmp (drop (i + 1) us) (drop (i + 1) vs))
first_then us vs i l m = ap₂ units_cmp (front us i l) (front vs i m)

cmp_same : (x y : ℕ) → x ≡ y → nat_cmp x y ≡ Equal
cmp_same x y e = grind (arith, nat_tests)

cmp_equal : (x y : ℕ) → nat_cmp x y ≡ Equal → x ≡ y
cmp_equal x y e = grind (arith, nat_tests)

pub next_same : (us vs : List ℕ) (i : ℕ) (all : Ordering) → i < length us → i < length vs → nat_cmp (get_or us i 0) (get_or vs i 0) ≡ Equal
    → units_cmp (drop i us) (drop i vs) ≡ all → units_cmp (drop (i + 1) us) (drop (i + 1) vs) ≡ all
next_same us vs i all l m e h = sym (ap (λ o. ordering_then o (units_cmp (drop (i + 1) us) (drop (i + 1) vs))) e) ∙ (sym (first_then us vs i l m) ∙ h)

pub decided : (o p q : Ordering) → o ≢ Equal → ordering_then o p ≡ ordering_then o q
decided Less p q n = refl
decided Equal p q n = absurd (n refl)
decided Greater p q n = refl

pub first_other : (us vs : List ℕ) (i n : ℕ) (o : Ordering) → i < length us → i < length vs → nat_cmp (get_or us i 0) (get_or vs i 0) ≡ o → o ≢ Equal
    → units_cmp (drop i us) (drop i vs) ≡ units_cmp us vs → units_cmp us vs ≡ ordering_then o (units_cmp (drop n us) (drop n vs))
first_other us vs i n o l m e d h = sym h ∙ (first_then us vs i l m ∙ (ap
    (λ p. ordering_then p (units_cmp (drop (i + 1) us) (drop (i + 1) vs))) e ∙ decided o (units_cmp (drop (i + 1) us) (drop (i + 1) vs))
    (units_cmp (drop n us) (drop n vs)) d))

-- two lists with the same front are in the order of what is behind it
front_passed : (us vs : List ℕ) (n : ℕ) → n ≤ length us → n ≤ length vs → ((k : ℕ) → k < n → get_or us k 0 ≡ get_or vs k 0) → units_cmp (drop n us) (drop n vs) ≡ units_cmp us vs
front_passed us vs zero l m same = refl
front_passed us vs (suc n) l m same = let e : n + 1 ≡ suc n = omega arith in
    ap (λ (k : ℕ). units_cmp (drop k us) (drop k vs)) (sym e)
    ∙ next_same us vs n (units_cmp us vs) (omega arith) (omega arith) (cmp_same (get_or us n 0) (get_or vs n 0) (same n (omega arith)))
    (front_passed us vs n (omega arith) (omega arith) (λ k h. same k (omega arith)))

pub same_passed : (us vs : List ℕ) (n : ℕ) → n ≤ length us → n ≤ length vs → ((k : ℕ) → k < n → get_or us k 0 ≡ get_or vs k 0)
    → units_cmp us vs ≡ ordering_then Equal (units_cmp (drop n us) (drop n vs))
same_passed us vs n l m same = sym (front_passed us vs n l m same)

pub other_passed : (us vs : List ℕ) (i n : ℕ) (o : Ordering) → i < length us → i < length vs → o ≡ nat_cmp (get_or us i 0) (get_or vs i 0)
    → (get_or us i 0 ≡ get_or vs i 0 → ⊥) → ((k : ℕ) → k < i → get_or us k 0 ≡ get_or vs k 0)
    → units_cmp us vs ≡ ordering_then o (units_cmp (drop n us) (drop n vs))
other_passed us vs i n o l m e d same = first_other us vs i n o l m (sym e) (λ h. d (cmp_equal (get_or us i 0) (get_or vs i 0) (sym e ∙ h)))
    (front_passed us vs i (omega arith) (omega arith) same)

narrow_first : (k u : ℕ) (us : List ℕ) → u ≤ 255 → past_latin1 k (u ∷ us) ≡ past_latin1 (k + 1) us
narrow_first k u us h = cond-false (nat_lt 255 u) (Some k) (past_latin1 (k + 1) us) (le-ltb 255 u h)

wide_first : (k u : ℕ) (us : List ℕ) → 255 < u → past_latin1 k (u ∷ us) ≡ Some k
wide_first k u us h = cond-true (nat_lt 255 u) (Some k) (past_latin1 (k + 1) us) (lt-ltb 255 u h)

by_first : (k u : ℕ) (us : List ℕ) (i : ℕ) → past_latin1 k (u ∷ us) ≡ None → ((j : ℕ) → past_latin1 (k + 1) us ≡ None → j < length us →
    get_or us j 0 ≤ 255) → i < suc (length us) → (255 < u) ⊎ (u ≤ 255) → get_or (u ∷ us) i 0 ≤ 255
by_first k u us i e on l (inl w) = let f : Some k ≡ None = sym (wide_first k u us w) ∙ e in absurd (cc)
by_first k u us zero e on l (inr h) = h
by_first k u us (suc j) e on l (inr h) = on j (sym (narrow_first k u us h) ∙ e) (omega (arith, l))

-- the units up to the first that is over 255
pub next_narrow : (us : List ℕ) (i : ℕ) → i < length us → get_or us i 0 ≤ 255 → past_latin1 i (drop i us) ≡ past_latin1 (i + 1) (drop (i + 1) us)
next_narrow us i l h = ap (past_latin1 i) (front us i l) ∙ narrow_first i (get_or us i 0) (drop (i + 1) us) h

pub first_wide : (us : List ℕ) (i : ℕ) → i < length us → 255 < get_or us i 0 → past_latin1 i (drop i us) ≡ Some i
first_wide us i l h = ap (past_latin1 i) (front us i l) ∙ wide_first i (get_or us i 0) (drop (i + 1) us) h

-- a run that was read to a block
pub narrow_run : (us block : List ℕ) (i n : ℕ) → i + n ≤ length us → ((k : ℕ) → k < n → get_or block k 0 ≤ 255) → ((k : ℕ) → k < n → get_or block k 0 ≡ get_or us (i + k) 0)
    → past_latin1 i (drop i us) ≡ past_latin1 (i + n) (drop (i + n) us)
narrow_run us block i zero l small same = let e : i ≡ i + 0 = omega arith in ap (λ (j : ℕ). past_latin1 j (drop j us)) e
narrow_run us block i (suc n) l small same =
    let e : i + n + 1 ≡ i + suc n = omega arith in
    narrow_run us block i n (omega arith) (λ k h. small k (omega arith)) (λ k h. same k (omega arith))
    ∙ (next_narrow us (i + n) (omega arith) (omega (arith, small n (omega arith), same n (omega arith))) ∙ ap (λ (j : ℕ). past_latin1 j (drop j us)) e)

pub all_passed : (us : List ℕ) (i : ℕ) → length us ≤ i → past_latin1 i (drop i us) ≡ None
all_passed us i l = ap (past_latin1 i) (drop_all i us l)

-- where there is none, each is at most 255
pub all_narrow : (k : ℕ) (us : List ℕ) (i : ℕ) → past_latin1 k us ≡ None → i < length us → get_or us i 0 ≤ 255
all_narrow k [] i e l = absurd (omega arith)
all_narrow k (u ∷ us) i e l = by_first k u us i e (λ j f m. all_narrow (k + 1) us j f m) (omega (arith, l)) (cases_lt 255 u)

-- what the test of an order says
pub is_equal : (o : Ordering) → not (ordering_index o == 1) ≡ false → o ≡ Equal
is_equal Less e = cc
is_equal Equal e = refl
is_equal Greater e = cc

pub is_other : (o : Ordering) → not (ordering_index o == 1) ≡ true → o ≢ Equal
is_other Less e = λ h. cc
is_other Equal e = λ h. let f : false ≡ true = e in cc
is_other Greater e = λ h. cc

pub whole_same : (us vs : List ℕ) (i : ℕ) → length us ≤ i → length vs ≤ i → take i us ≡ take i vs → us ≡ vs
whole_same us vs i l m h = sym (take_all i us l) ∙ (h ∙ take_all i vs m)

-- the order of two lists of n units is that of their first n
pub then_equal : (o : Ordering) → ordering_then o Equal ≡ o
then_equal Less = refl
then_equal Equal = refl
then_equal Greater = refl

pub whole_order : (us vs : List ℕ) (n : ℕ) (o : Ordering) → length us ≡ n → length vs ≡ n → units_cmp us vs ≡ ordering_then o (units_cmp (drop n us) (drop n vs)) → o ≡ units_cmp us vs
whole_order us vs n o l m h = sym (h ∙ (ap₂ (λ (x y : List ℕ). ordering_then o (units_cmp x y)) (drop_all n us (omega arith)) (drop_all n vs (omega arith)) ∙ then_equal o))

pub told_equal : (o : Ordering) → ((ordering_index o == 1) ≡ true) ↔ (o ≡ Equal)
told_equal Less = (λ h. let f : false ≡ true = h in absurd (cc), λ e. absurd (cc))
told_equal Equal = (λ h. refl, λ e. refl)
told_equal Greater = (λ h. let f : false ≡ true = h in absurd (cc), λ e. absurd (cc))
