-- Splitting keeps the rule; and learning, as a step of its own that changes no word.
use Rattle.std.proofs.Common.{◌≡◌, ◌≢◌, ℕ, zero, suc, ◌+◌, ◌<◌, ◌≤◌, ◌⊎◌, inl, inr, ⊎_elim, true, List, [], ◌∷◌, ◌++◌, append-nil, length, set, sym, refl, ap, ◌∙◌, subst, arith}
use Rattle.std.specs.Prelude.{Contains}
use Rattle.std.proofs.lemmas.List.Sums.{sum_by-append}
use mathlib.Core.Logic.{dite}
use native.Mathlib.Decide.{ℕ_discrete}
use mathlib.Core.Option.{some-injective, some-ne-none}
use lib.ListN.{get_elem?}
use Rattle.std.specs.FinMap.{FinMap, empty}
use Rattle.std.specs.Ordering.{nat_cmp}
use Rattle.heap_rule.specs.declared.view.View.{View}
use Rattle.heap_rule.specs.declared.size.HeapSize.{HeapSize}
use Rattle.heap_rule.specs.Maps.{HasKey}
use Rattle.heap_rule.specs.Paths.{Calls}
use Rattle.heap_rule.specs.Views.{history}
use Rattle.heap_rule.specs.Sound.{At, EachLive, IsFree, IsKept, OwnsIds, OwnsWords, AreApart, Knows, Recalls, IsLow, IsMember, IsSound, IsPossible, StandsIn, of_live, total}
use Rattle.std.proofs.Math.Logic.{∥∥₁_map}
use Rattle.heap_rule.specs.Learning.{learned}
use Rattle.heap_rule.specs.Agents.{left_after_split, right_after_split, noted}
use Rattle.heap_rule.proofs.MapLemmas.{nothing_has, has_key}
use Rattle.heap_rule.proofs.ListLemmas.{set_else, set_there, each_set, of_live_true, total_set}
use Rattle.heap_rule.proofs.Agreement.{Agrees}
use Rattle.heap_rule.proofs.Carried.{standing_then, knows_then, slots_then, different_then, recalls_then}
use Rattle.heap_rule.proofs.OneView.{apart_pairs}
use Rattle.heap_rule.proofs.Steps.{unmoved, same_words, knew, recalled}
use Rattle.heap_rule.proofs.Learning.{knows_learned}

module _ {A : Type 0} where
  pub at_last : (l : List A) (a : A) → At (l ++ a ∷ []) (length l) a
  at_last [] a = refl
  at_last (x ∷ xs) a = at_last xs a

  at_snoc : (l : List A) (a b : A) (j : ℕ) → At (l ++ a ∷ []) j b → At l j b ⊎ ((j ≡ length l) × (a ≡ b))
  at_snoc [] a b zero e = inr (refl, some-injective a b e)
  at_snoc [] a b (suc j) e = absurd (some-ne-none b (sym e))
  at_snoc (x ∷ xs) a b zero e = inl e
  at_snoc (x ∷ xs) a b (suc j) e = ⊎_elim (λ h. inl h) (λ (t : (j ≡ length xs) × (a ≡ b)). let f = t.0 in inr (omega arith, t.1)) (at_snoc xs a b j e)

  pub at_front : (l m : List A) (i : ℕ) (a : A) → At l i a → At (l ++ m) i a
  at_front [] m i a e = absurd (some-ne-none a (sym e))
  at_front (x ∷ xs) m zero a e = e
  at_front (x ∷ xs) m (suc i) a e = at_front xs m i a e

  pub set_twice : (l : List A) (i : ℕ) (a b : A) → set (set l i a) i b ≡ set l i b
  set_twice [] i a b = refl
  set_twice (x ∷ xs) zero a b = refl
  set_twice (x ∷ xs) (suc i) a b = λ k. x ∷ set_twice xs i a b k

pub each_snoc : (P : ℕ → View → Type 0) (vs : List View) (w : View) → EachLive vs P → P (length vs) w → EachLive (vs ++ w ∷ []) P
each_snoc P vs w old last k u e l = ⊎_elim (λ h. old k u h l) (λ (t : (k ≡ length vs) × (w ≡ u)). subst (λ (x : ℕ × View). P x.0 x.1) (λ i. (sym t.0 i, t.1 i)) last) (at_snoc vs w u k e)

total_snoc : (f : View → ℕ) (vs : List View) (w : View) → w.live ≡ true → total f (vs ++ w ∷ []) ≡ total f vs + f w
total_snoc f vs w l = let a = sum_by-append (of_live f) vs (w ∷ []) in let b = of_live_true f w l in let c : total f (w ∷ []) ≡ of_live f w = omega arith in omega (arith, a, b, c)

module _ (z : HeapSize) (agents : ℕ) (W : List ℕ) (vs : List View) (s : IsSound z agents W vs) (j : ℕ) (v : View) (at : At vs j v) (live : v.live ≡ true) where
  -- so that no other step's proof speaks of learning
  pub keeps_learned : (names : List ℕ) → IsSound z agents W (set vs j (learned v names))
  keeps_learned names = let w : View = learned v names in let vs' : List View = set vs j w in let agrees : Agrees z W vs W vs' = same_words z agents W vs s j v at live w refl in
      unmoved z agents W vs s j v at live w live refl refl refl refl refl refl
      (knows_learned z W vs' (λ i b. standing_then z W vs s.standing W vs' agrees i b) v (knew z agents W vs s j v at live W w agrees) names)
      (recalled z agents W vs s j v at live W w agrees) (λ u q h. h) (s.lows j v at live)

  module _ (give : ℕ) (some_give : 1 ≤ give) (less : give < v.share) where
    abbrev left : View
    left = left_after_split v give

    abbrev right : View
    right = right_after_split v give

    abbrev one : List View
    one = set vs j left

    abbrev vs' : List View
    vs' = one ++ right ∷ []

    none_own : (m : FinMap nat_cmp ℕ) → AreApart empty m
    none_own m k h g = let p = has_key empty k h in nothing_has k p.0 p.1

    free_still : (c : ℕ) → IsKept W vs c → IsFree vs' c
    free_still c k = each_snoc (λ _ u. HasKey u.own_words c → ⊥) one right (each_set (λ _ u. HasKey u.own_words c → ⊥) vs j left (k.free j v at live) (λ q u ne e l. k.free q u e l))
        (λ h. let p = has_key empty c h in nothing_has c p.0 p.1)

    agrees : Agrees z W vs W vs'
    agrees = record { ids = omega arith; words = omega arith; forms = λ i b. inl refl; lengths = λ i b. refl; contents = λ c k. refl; slots = λ k h. inl refl; free = free_still }

    -- what every live view has, and v has for both
    both : (P : View → Type 0) → EachLive vs (λ _ u. P u) → P left → P right → EachLive vs' (λ _ u. P u)
    both P old l r = each_snoc (λ _ u. P u) one right (each_set (λ _ u. P u) vs j left l (λ k u ne e m. old k u e m)) r

    apart : (own : View → FinMap nat_cmp ℕ) → (own left ≡ own v) → (own right ≡ empty) → EachLive vs (λ k u. EachLive vs (λ l x. k ≢ l → AreApart (own u) (own x)))
        → EachLive vs' (λ k u. EachLive vs' (λ l x. k ≢ l → AreApart (own u) (own x)))
    apart own same none old = each_snoc (λ k u. EachLive vs' (λ l x. k ≢ l → AreApart (own u) (own x))) one right
        (λ k u e l. each_snoc (λ q x. k ≢ q → AreApart (own u) (own x)) one right
        (apart_pairs z agents W vs j v W left own old (λ q x ne a b. subst (λ (m : FinMap nat_cmp ℕ). AreApart m (own x)) (sym same) (old j v at live q x a b (λ e'. ne (sym e')))) k u e l)
        (λ ne q h g. none_own (own u) q (subst (λ (m : FinMap nat_cmp ℕ). HasKey m q) none g) h))
        (λ q x e l ne c h g. none_own (own x) c (subst (λ (m : FinMap nat_cmp ℕ). HasKey m c) none h) g)

    sums : (f : View → ℕ) → f left + f right ≡ f v → total f vs' ≡ total f vs
    sums f h = let a = total_snoc f one right live in let b = total_set f vs j v left at live live in omega (arith, a, b, h)

    pub keeps_split : IsSound z agents W vs'
    keeps_split = let st = s.standing in let k = knows_then z W vs st W vs' agrees in let d = s.added in let m = s.members j v at live in
        let r = recalls_then z W vs st W vs' agrees v (s.knows j v at live) s.slots (s.recalls j v at live) in record {
          lawful = s.lawful;
          counted = s.counted;
          own_ids = both (λ u. OwnsIds z W u.own_ids) s.own_ids (s.own_ids j v at live) record { each = λ i n h. absurd (nothing_has i n h) };
          own_words = both (λ u. OwnsWords z W u.own_words) s.own_words (s.own_words j v at live) record { each = λ i n h. absurd (nothing_has i n h) };
          ids_apart = apart (λ u. u.own_ids) refl refl s.ids_apart;
          words_apart = apart (λ u. u.own_words) refl refl s.words_apart;
          standing = λ i b. standing_then z W vs st W vs' agrees i b;
          knows = both (λ u. Knows z W vs' u) (λ q u e l. k u (s.knows q u e l)) (k v (s.knows j v at live)) (k v (s.knows j v at live));
          slots = slots_then z W vs st W vs' agrees s.slots (λ q i l f e. absurd (omega arith));
          different = different_then z W vs st W vs' agrees s.slots s.different (λ q i l t a b f e g h. absurd (omega arith)) (λ q i l t a b f e g h. absurd (omega arith));
          recalls = both (λ u. Recalls z W vs' u) (λ q u e l. recalls_then z W vs st W vs' agrees u (s.knows q u e l) s.slots (s.recalls q u e l)) r
              (λ u i c. r u i (subst (λ (l : Calls). Contains l (u, i)) (append-nil (history v)) c));
          entered = λ q i l e. let t = s.entered q i l e in dite (ℕ_discrete t.0 j)
              (λ is. let same : v ≡ t.1 = some-injective v t.1 (sym at ∙ (ap (get_elem? vs) (sym is) ∙ t.3)) in
              (j, left, t.2, at_front one (right ∷ []) j left (set_there vs j left v at), live, subst (λ (x : View). Contains x.mine (t.2, i)) (sym same) t.5))
              (λ ne. (t.0, t.1, t.2, at_front one (right ∷ []) t.0 t.1 (set_else vs j t.0 left ne ∙ t.3), t.4, t.5));
          added = record {
            ids = d.ids ∙ sym (sums (λ u. u.used.ids) (omega arith));
            words = d.words ∙ sym (sums (λ u. u.used.words) (omega arith));
            shares = sums (λ u. u.share) (omega arith) ∙ d.shares;
          };
          lows = both (λ u. IsLow W u.low) s.lows (s.lows j v at live) (s.lows j v at live);
          members = both (λ u. IsMember z agents u) s.members (omega arith, m.1, m.2) (some_give, m.1, m.2);
        }

  -- a note changes nothing of which the rule speaks
  pub keeps_noted : (give : ℕ) → IsSound z agents W (set vs j (noted v give))
  keeps_noted give = let w : View = noted v give in let agrees : Agrees z W vs W (set vs j w) = same_words z agents W vs s j v at live w refl in
      unmoved z agents W vs s j v at live w live refl refl refl refl refl refl (knew z agents W vs s j v at live W w agrees)
      (recalled z agents W vs s j v at live W w agrees) (λ u q h. h) (s.lows j v at live)

-- both views of a splitting are possible, if the one before was
both_in : (v : View) (give : ℕ) → 1 ≤ give → give < v.share → StandsIn v → StandsIn (left_after_split v give) × StandsIn (right_after_split v give)
both_in v give a b (z, agents, W, vs, j, s, at, live) = let left : View = left_after_split v give in let right : View = right_after_split v give in let one : List View = set vs j left in
    let k : IsSound z agents W (one ++ right ∷ []) = keeps_split z agents W vs s j v at live give a b in (
      (z, agents, W, one ++ right ∷ [], j, k, at_front one (right ∷ []) j left (set_there vs j left v at), live),
      (z, agents, W, one ++ right ∷ [], length one, k, at_last one right, live),
    )

pub possible_split : (v : View) (give : ℕ) → 1 ≤ give → give < v.share → IsPossible v → IsPossible (left_after_split v give) × IsPossible (right_after_split v give)
possible_split v give a b p = (∥∥₁_map p (λ t. (both_in v give a b t).0), ∥∥₁_map p (λ t. (both_in v give a b t).1))
