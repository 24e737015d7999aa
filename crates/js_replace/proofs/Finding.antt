-- The places of matches, one after another.
use Rattle.std.proofs.Common.{arith, ◌≡◌, ℕ, zero, suc, ◌+◌, ◌-◌, ◌<◌, ◌≤◌, max, List, [], ◌∷◌, ◌++◌, length, refl, ap, sym, ◌∙◌, cond, Bool, true, false, append_assoc, append-nil}
use Rattle.std.specs.Prelude.{Option, Some, None, unwrap_or}
use Rattle.js_search.specs.Places.{stands, least, first, IsPartAt}
use Rattle.js_search.proofs.Bounds.{first_is, tells}
use Rattle.js_replace.specs.Matches.{first_matches, matches, AreMatches, InOrder}
use Rattle.js_replace.specs.Fronts.{and_on}

-- past the end nothing stands
pub none_past : (u w : List ℕ) (from : ℕ) → length u < from → None ≡ first u w from
none_past u w from h = first_is u w from None (λ k l s. let room = s.0 in absurd (omega (arith, h, l, room)))

by_test : (b : Bool) (p : ℕ → Bool) (a n k : ℕ) → p a ≡ b → cond b (Some a) (least p (suc a) n) ≡ Some k → (least p (suc a) n ≡ Some k → (suc a ≤ k) × (p k ≡ true)) → (a ≤ k) × (p k ≡ true)
by_test true p a n k h e on = let same : a ≡ k = ap (λ o. unwrap_or o 0) e in (omega (arith, same), ap p (sym same) ∙ h)
by_test false p a n k h e on = let f = on e in (omega (arith, f.0), f.1)

least_found : (p : ℕ → Bool) (a n k : ℕ) → least p a n ≡ Some k → (a ≤ k) × (p k ≡ true)
least_found p a zero k e = absurd (cc)
least_found p a (suc n) k e = by_test (p a) p a n k refl e (λ f. least_found p (suc a) n k f)

-- where a match is
pub found : (u w : List ℕ) (from k : ℕ) → first u w from ≡ Some k → (from ≤ k) × IsPartAt u w k
unfolding first
found u w from k e = let f = least_found (stands u w) from (suc (length u) - from) k e in (f.0, (tells u w k).0 f.1)

-- the next place, and those behind it
pub last_turn : (n : ℕ) (u w : List ℕ) (from : ℕ) → 0 < n → first u w from ≡ None → first_matches n u w from ≡ []
last_turn zero u w from h e = absurd (omega arith)
last_turn (suc n) u w from h e = ap (λ o. and_on o (λ k. first_matches n u w (k + max 1 (length w)))) e

pub next_turn : (n : ℕ) (u w : List ℕ) (from k : ℕ) → 0 < n → first u w from ≡ Some k → first_matches n u w from ≡ k ∷ first_matches (n - 1) u w (k + max 1 (length w))
next_turn zero u w from k h e = absurd (omega arith)
next_turn (suc n) u w from k h e =
    let less : suc n - 1 ≡ n = omega arith in
    ap (λ o. and_on o (λ j. first_matches n u w (j + max 1 (length w)))) e ∙ ap (λ m. k ∷ first_matches m u w (k + max 1 (length w))) (sym less)

by_place : (o : Option ℕ) (n : ℕ) (u w : List ℕ) (end from : ℕ) → first u w from ≡ o → end ≤ from → end
    ≤ length u → ((k : ℕ) → o ≡ Some k → InOrder (length u) (length w) (k + length w) (first_matches n u w (k + max 1 (length w)))) → InOrder
    (length u) (length w) end (and_on o (λ k. first_matches n u w (k + max 1 (length w))))
by_place None n u w end from e h l more = l
by_place (Some k) n u w end from e h l more =
    let f = found u w from k e in
    (omega (arith, h, f.0), f.1.0, more k refl)

ordered : (n : ℕ) (u w : List ℕ) (end from : ℕ) → end ≤ from → end ≤ length u → InOrder (length u) (length w) end (first_matches n u w from)
ordered zero u w end from h l = l
ordered (suc n) u w end from h l = by_place (first u w from) n u w end from refl h l
    (λ k e. ordered n u w (k + length w) (k + max 1 (length w)) (omega arith) (let f = (found u w from k e).1.0 in f))

pub in_order : (n : ℕ) (u w ks : List ℕ) → ks ≡ first_matches n u w 0 → InOrder (length u) (length w) 0 ks
in_order n u w ks e = rw e (ordered n u w 0 0 (omega arith) (omega arith))

by_count : (o : Option ℕ) (n : ℕ) (more : ℕ → List ℕ) → ((k : ℕ) → length (more k) ≤ n) → length (and_on o more) ≤ suc n
by_count None n more h = omega arith
by_count (Some k) n more h = omega (arith, h k)

counted : (n : ℕ) (u w : List ℕ) (from : ℕ) → length (first_matches n u w from) ≤ n
counted zero u w from = omega arith
counted (suc n) u w from = by_count (first u w from) n (λ k. first_matches n u w (k + max 1 (length w))) (λ k. counted n u w (k + max 1 (length w)))

pub count : (n : ℕ) (u w ks : List ℕ) → ks ≡ first_matches n u w 0 → length ks ≤ n
count n u w ks e = rw e (counted n u w 0)

-- a match that is the next one, in a store that has grown
next_in : (u v w x : List ℕ) (from : ℕ) (o : Option ℕ) → v ≡ u → x ≡ w → o ≡ first v x from → first u w from ≡ o
next_in u v w x from o p q e = ap (λ y. first y w from) (sym p) ∙ ap (λ y. first v y from) (sym q) ∙ sym e

pub found_all : (n : ℕ) (u v w x ks whole : List ℕ) (from : ℕ) → 0 < n → v ≡ u → x ≡ w → None ≡ first v x from → ks ++ first_matches n u w from ≡ whole → ks ≡ whole
found_all n u v w x ks whole from h p q e k = sym (append-nil ks) ∙ ap (λ y. ks ++ y) (sym (last_turn n u w from h (next_in u v w x from None p q e))) ∙ k

pub found_more : (n m : ℕ) (u v w x ks more whole : List ℕ) (from k after : ℕ) → 0 < n → m ≡ n - 1 → v ≡ u → x ≡ w → Some k ≡ first v x from
    → after ≡ k + max 1 (length w) → more ≡ ks ++ k ∷ [] → ks ++ first_matches n u w from ≡ whole → more ++ first_matches m u w after ≡ whole
found_more n m u v w x ks more whole from k after h d p q e a g b =
    let left = first_matches (n - 1) u w (k + max 1 (length w)) in
    let turn = next_turn n u w from k h (next_in u v w x from (Some k) p q e) in
    ap (λ y. y ++ first_matches m u w after) g
    ∙ append_assoc ks (k ∷ []) (first_matches m u w after)
    ∙ ap (λ y. ks ++ k ∷ first_matches y u w after) d
    ∙ ap (λ y. ks ++ k ∷ first_matches (n - 1) u w y) a
    ∙ ap (λ y. ks ++ y) (sym turn)
    ∙ b

pub found_room : (u v w x : List ℕ) (from k : ℕ) → v ≡ u → x ≡ w → Some k ≡ first v x from → k + length w ≤ length u
found_room u v w x from k p q e = (found u w from k (next_in u v w x from (Some k) p q e)).1.0

-- The places are those of the definition by the least place.

by_least : (o : Option ℕ) (n : ℕ) (u w : List ℕ) (from : ℕ) → first u w
    from ≡ o → ((k : ℕ) → o ≡ Some k → AreMatches u w (k + max 1 (length w)) (first_matches n u w (k + max 1 (length w)))) → AreMatches u w
    from (and_on o (λ k. first_matches n u w (k + max 1 (length w))))
by_least None n u w from e h = e
by_least (Some k) n u w from e h = (e, h k refl)

all_from : (n : ℕ) (u w : List ℕ) (from : ℕ) → length u < n + from → AreMatches u w from (first_matches n u w from)
all_from zero u w from h = sym (none_past u w from (omega (arith, h)))
all_from (suc n) u w from h = by_least (first u w from) n u w from refl (λ k e. let f = (found u w from k e).0 in all_from n u w (k + max 1 (length w)) (omega (arith, h, f)))

pub all_matches : (u w : List ℕ) → AreMatches u w 0 (matches u w)
unfolding matches
all_matches u w = all_from (suc (length u)) u w 0 (omega arith)
