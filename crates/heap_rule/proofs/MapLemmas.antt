-- Maps from numbers, read at a key.
use Rattle.std.proofs.Common.{◌≡◌, ◌≢◌, ℕ, ◌⊎◌, inl, inr, true, false, cond, sym, refl, ap, ◌∙◌, subst, eq-eqb, ne_eqb, Option, Some, None, IsTrue}
use mathlib.Core.Logic.{dite}
use native.Mathlib.Decide.{ℕ_discrete}
use Rattle.std.specs.Ordering.{nat_cmp}
use Rattle.std.specs.Cmp.{nat_cmp_total, unsigned_tied}
use Rattle.std.specs.FinMap.{FinMap, get, insert, remove, get-insert, get-remove, get-empty, empty, same_map, nat_cmp-IsAntisymmetric}
use Rattle.std.specs.Prelude.{is_some}
use Rattle.heap_rule.specs.Maps.{Has, HasKey}

module _ {X : Type 0} where
  pub insert_same : (m : FinMap nat_cmp X) (k : ℕ) (v : X) → get (insert m k v) k ≡ Some v
  insert_same m k v = get-insert nat_cmp_total m k v k ∙ ap (λ b. cond b (Some v) (get m k)) (unsigned_tied k k ∙ eq-eqb k k refl)

  pub insert_other : (m : FinMap nat_cmp X) (k q : ℕ) (v : X) → q ≢ k → get (insert m k v) q ≡ get m q
  insert_other m k q v ne = get-insert nat_cmp_total m k v q ∙ ap (λ b. cond b (Some v) (get m q)) (unsigned_tied q k ∙ ne_eqb q k ne)

  pub remove_same : (m : FinMap nat_cmp X) (k : ℕ) → get (remove m k) k ≡ None
  remove_same m k = get-remove nat_cmp_total m k k ∙ ap (λ b. cond b None (get m k)) (unsigned_tied k k ∙ eq-eqb k k refl)

  pub remove_other : (m : FinMap nat_cmp X) (k q : ℕ) → q ≢ k → get (remove m k) q ≡ get m q
  remove_other m k q ne = get-remove nat_cmp_total m k q ∙ ap (λ b. cond b None (get m q)) (unsigned_tied q k ∙ ne_eqb q k ne)

  -- what an inserted key has, and what the others have
  pub has_insert : (m : FinMap nat_cmp X) (k q : ℕ) (v x : X) → Has (insert m k v) q x → ((q ≡ k) × (v ≡ x)) ⊎ ((q ≢ k) × Has m q x)
  has_insert m k q v x h = dite (ℕ_discrete q k)
      (λ e. let here : Some v ≡ Some x = sym (insert_same m k v) ∙ (ap (get (insert m k v)) (sym e) ∙ h) in inl (e, cc))
      (λ ne. inr (ne, sym (insert_other m k q v ne) ∙ h))

  pub has_remove : (m : FinMap nat_cmp X) (k q : ℕ) (x : X) → Has (remove m k) q x → (q ≢ k) × Has m q x
  has_remove m k q x h = dite (ℕ_discrete q k)
      (λ e. let here : None ≡ Some x = sym (remove_same m k) ∙ (ap (get (remove m k)) (sym e) ∙ h) in absurd (cc))
      (λ ne. (ne, sym (remove_other m k q ne) ∙ h))

  some_or_none : (o : Option X) → IsTrue (is_some o) → (x : X) × (o ≡ Some x)
  some_or_none (Some x) h = (x, refl)
  some_or_none None h = let e : false ≡ true = h in cc

  pub has_key : (m : FinMap nat_cmp X) (k : ℕ) → HasKey m k → (x : X) × Has m k x
  has_key m k h = some_or_none (get m k) h

  pub key_of : (m : FinMap nat_cmp X) (k : ℕ) (x : X) → Has m k x → HasKey m k
  key_of m k x h = subst (λ (o : Option X). IsTrue (is_some o)) (sym h) refl

  pub nothing_has : (k : ℕ) (x : X) → Has empty k x → ⊥
  nothing_has k x h = let e : None ≡ Some x = sym (get-empty nat_cmp k) ∙ h in cc

  pub key_insert : (m : FinMap nat_cmp X) (k q : ℕ) (v : X) → HasKey (insert m k v) q → (q ≡ k) ⊎ HasKey m q
  key_insert m k q v h = dite (ℕ_discrete q k) (λ e. inl e) (λ ne. inr (subst (λ (o : Option X). IsTrue (is_some o)) (insert_other m k q v ne) h))

  -- a key that was not there, put in and taken out again
  pub remove_insert : (m : FinMap nat_cmp X) (k : ℕ) (v : X) → get m k ≡ None → remove (insert m k v) k ≡ m
  remove_insert m k v none = same_map nat_cmp_total nat_cmp-IsAntisymmetric (remove (insert m k v) k) m (λ q. dite (ℕ_discrete q k)
      (λ e. ap (get (remove (insert m k v) k)) e ∙ (remove_same (insert m k v) k ∙ (sym none ∙ ap (get m) (sym e))))
      (λ ne. remove_other (insert m k v) k q ne ∙ insert_other m k q v ne))
