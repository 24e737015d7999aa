-- The run of own words that becomes frozen with a header that moves.
use Rattle.std.proofs.Common.{◌≡◌, ℕ, zero, suc, ◌+◌, ◌-◌, ◌<◌, ◌≤◌, ⊎_elim, Bool, true, false, sym, refl, ◌∙◌, subst, arith, Option, Some, None}
use mathlib.Core.Logic.{dite}
use native.Mathlib.Decide.{ℕ_discrete}
use Rattle.std.specs.Ordering.{nat_cmp}
use Rattle.std.specs.FinMap.{FinMap, get, insert, contains_key}
use Rattle.heap_rule.specs.Maps.{HasKey, put_some, with_run_of}
use Rattle.heap_rule.proofs.MapLemmas.{has_key, key_of, insert_same, insert_other}
use Rattle.heap_rule.proofs.Birth.{has_frozen}

same_truth : (a b : Bool) → (a ≡ true → b ≡ true) → (b ≡ true → a ≡ true) → a ≡ b
same_truth true b f g = sym (f refl)
same_truth false true f g = g refl
same_truth false false f g = refl

module _ {X : Type 0} where
  put_keeps : (m : FinMap nat_cmp X) (c : ℕ) (o : Option X) (q : ℕ) → HasKey m q → HasKey (put_some m c o) q
  put_keeps m c None q h = h
  put_keeps m c (Some x) q h = dite (ℕ_discrete q c) (λ e. key_of (insert m c x) q x (subst (λ (k : ℕ). get (insert m c x) k ≡ Some x) (sym e) (insert_same m c x)))
      (λ ne. let p = has_key m q h in key_of (insert m c x) q p.0 (insert_other m c q x ne ∙ p.1))

  put_has : (m : FinMap nat_cmp X) (c : ℕ) (o : Option X) (x : X) → o ≡ Some x → HasKey (put_some m c o) c
  put_has m c o x e = subst (λ (p : Option X). HasKey (put_some m c p) c) (sym e) (key_of (insert m c x) c x (insert_same m c x))

  run_keeps : (own m : FinMap nat_cmp X) (c n q : ℕ) → HasKey m q → HasKey (with_run_of own m c n) q
  run_keeps own m c zero q h = h
  run_keeps own m c (suc n) q h = run_keeps own (put_some m c (get own c)) (suc c) n q (put_keeps m c (get own c) q h)

  run_has : (own m : FinMap nat_cmp X) (c n q : ℕ) → c ≤ q → q < c + n → HasKey own q → HasKey (with_run_of own m c n) q
  run_has own m c zero q lo hi h = absurd (omega arith)
  run_has own m c (suc n) q lo hi h = dite (ℕ_discrete q c)
      (λ e. let p = has_key own q h in run_keeps own (put_some m c (get own c)) (suc c) n q
      (subst (HasKey (put_some m c (get own c))) (sym e) (put_has m c (get own c) p.0 (subst (λ (k : ℕ). get own k ≡ Some p.0) e p.1))))
      (λ ne. run_has own (put_some m c (get own c)) (suc c) n q (omega arith) (omega arith) h)

  -- the answers of the test
  pub in_run : (own m : FinMap nat_cmp X) (c n q : ℕ) → c ≤ q → q - c < n → contains_key own q ≡ true → true ≡ contains_key (with_run_of own m c n) q
  in_run own m c n q lo hi h = sym (run_has own m c n q lo (omega arith) h)

  pub not_in_run : (own m : FinMap nat_cmp X) (c n q : ℕ) → ((c ≤ q) → (q - c < n) → contains_key own q ≡ true → ⊥) → contains_key m q ≡ contains_key (with_run_of own m c n) q
  not_in_run own m c n q not = same_truth (contains_key m q) (contains_key (with_run_of own m c n) q) (run_keeps own m c n q)
      (λ h. let p = has_key (with_run_of own m c n) q h in ⊎_elim (λ t. let lo = t.0 in
      let hi = t.1 in absurd (not lo (omega arith) (key_of own q p.0 t.2))) (λ t. key_of m q p.0 t) (has_frozen own m c n q p.0 p.1))
