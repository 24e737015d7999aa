-- How many different lists there are.
use Rattle.std.proofs.Common.{◌≡◌, ℕ, zero, suc, ◌<◌, ◌≤◌, ◌||◌, Bool, true, false, cond, List, [], ◌∷◌, length, refl, sym, ap, subst, ◌∙◌, arith, nat_eq, Contains}
use Rattle.std.specs.Bool.{Decides}
use Rattle.std.specs.Cmp.{IsEquivalence}
use Rattle.std.specs.Cmp.Lexicographic.{pointwise, bytes_decides, nat_list_eq_equiv}
use Rattle.std.specs.Map.{keys_of}
use Rattle.std.specs.Set.{is_member, unique_keys, distinct_count}
use Rattle.std.proofs.lemmas.List.Elements.{Contains-append_right}
use Rattle.std.proofs.lemmas.Map.Made.{length-le_from_is_member, is_member-Decides, IsDistinct-from_count}
use Rattle.heap_rule.specs.Paths.{Calls}
use Rattle.heap_intern.specs.Counting.{different}
use Rattle.run_program.specs.Fits.{count_different}

false_from : (b : Bool) → (b ≡ true → ⊥) → b ≡ false
false_from true n = absurd (n refl)
false_from false n = refl

module _ {K : Type 0} {eq : K → K → Bool} (same : (a b : K) → Decides (eq a b) (a ≡ b)) (laws : IsEquivalence eq) where
  unique_same : (xs : List K) (q : K) → is_member eq (unique_keys eq xs) q ≡ is_member eq xs q
  unique_same [] q = refl
  unique_same (x ∷ xs) q = by (is_member eq xs x) (eq q x) refl refl (unique_same xs q)
    where
      by : (b c : Bool) → is_member eq xs x ≡ b → eq q x ≡ c → is_member eq (unique_keys eq xs) q ≡ is_member eq xs q → is_member eq
          (cond b (unique_keys eq xs) (x ∷ unique_keys eq xs)) q ≡ (c || is_member eq xs q)
      by true true m t r = r ∙ (ap (is_member eq xs) ((same q x).0 t) ∙ m)
      by true false m t r = r
      by false c m t r = rw t (ap (λ v. c || v) r)

  unique_count : (xs : List K) → distinct_count eq (unique_keys eq xs) ≡ length (unique_keys eq xs)
  unique_count [] = refl
  unique_count (x ∷ xs) = by (is_member eq xs x) refl (unique_count xs)
    where
      by : (b : Bool) → is_member eq xs x ≡ b → distinct_count eq (unique_keys eq xs) ≡ length (unique_keys eq xs) → distinct_count eq
          (cond b (unique_keys eq xs) (x ∷ unique_keys eq xs)) ≡ length (cond b (unique_keys eq xs) (x ∷ unique_keys eq xs))
      by true m r = r
      by false m r = ap (λ b. length (cond b (unique_keys eq (unique_keys eq xs)) (x ∷ unique_keys eq (unique_keys eq xs)))) (unique_same xs x ∙ m) ∙ ap suc r

  fewer_members : (xs ys : List K) → ((q : K) → Contains xs q → Contains ys q) → distinct_count eq xs ≤ distinct_count eq ys
  fewer_members xs ys h = length-le_from_is_member laws (unique_keys eq xs) (unique_keys eq ys) (IsDistinct-from_count laws (unique_keys eq xs) (unique_count xs))
      (λ q m. unique_same ys q ∙ (is_member-Decides same ys q).1 (h q ((is_member-Decides same xs q).0 (sym (unique_same xs q) ∙ m))))

  one_member_more : (x : K) (xs : List K) → (Contains xs x → ⊥) → distinct_count eq (x ∷ xs) ≡ suc (distinct_count eq xs)
  one_member_more x xs n = ap (λ b. length (cond b (unique_keys eq xs) (x ∷ unique_keys eq xs))) (false_from (is_member eq xs x) (λ m. n ((is_member-Decides same xs x).0 m)))

in_front : (x : List ℕ) (xs ys : List (List ℕ)) → Contains ys x → ((u : List ℕ) → Contains xs u → Contains ys u) → (u : List ℕ) → Contains (x ∷ xs) u → Contains ys u
in_front x xs ys at h u (zero, l, e) = subst (λ (w : List ℕ). Contains ys w) e at
in_front x xs ys at h u (suc k, l, e) = h u (k, omega arith, e)

-- where another list has all lists of one, and one more, there are more different ones
pub more_different : (xs ys : List (List ℕ)) (u : List ℕ) → (Contains xs u → ⊥) → ((v : List ℕ) → Contains xs v → Contains ys v) → Contains ys u → count_different xs < count_different ys
unfolding count_different
more_different xs ys u n h at = let eq : List ℕ → List ℕ → Bool = pointwise nat_eq in
    let one : distinct_count eq (u ∷ xs) ≡ suc (distinct_count eq xs) = one_member_more bytes_decides nat_list_eq_equiv u xs n in
    let m : distinct_count eq (u ∷ xs) ≤ distinct_count eq ys = fewer_members bytes_decides nat_list_eq_equiv (u ∷ xs) ys (in_front u xs ys at h) in omega arith

pub different_lists : (h : Calls) → different h ≡ count_different (keys_of h)
unfolding different count_different
different_lists h = refl

-- a list that a history lists was interned by a call
pub called : (h : Calls) (u : List ℕ) → Contains (keys_of h) u → (i : ℕ) × Contains h (u, i)
called [] u c = let l = c.1 in absurd (omega arith)
called (p ∷ ps) u (zero, l, e) = (p.1, (0, omega arith, (λ i. (e i, p.1))))
called (p ∷ ps) u (suc k, l, e) = let t = called ps u (k, omega arith, e) in (t.0, Contains-append_right (p ∷ []) ps (u, t.0) t.1)
