-- Two lists that a Cons joins, both narrow exactly where the whole is.
use Rattle.std.proofs.Common.{◌≡◌, ℕ, zero, suc, ◌+◌, ◌<◌, ◌≤◌, Bool, true, false, List, [], ◌∷◌, ◌++◌, length, arith, IsTrue, ◌↔◌}
use Rattle.std.specs.Prelude.{All}
use Rattle.std.proofs.lemmas.List.Elements.{All-append}
use Rattle.heap_rule.specs.Forms.{IsNarrow}
use Rattle.heap_core_births.specs.Moving.{Join}

front_narrow : (a b : List ℕ) → All (λ u. u < 256) (a ++ b) → All (λ u. u < 256) a
front_narrow [] b h k d l = absurd (omega arith)
front_narrow (x ∷ a) b h zero d l = h zero d (omega arith)
front_narrow (x ∷ a) b h (suc k) d l = front_narrow a b (λ j e m. h (suc j) e (omega arith)) k d (omega arith)

rest_narrow : (a b : List ℕ) → All (λ u. u < 256) (a ++ b) → All (λ u. u < 256) b
rest_narrow [] b h = h
rest_narrow (x ∷ a) b h = rest_narrow a b (λ j e m. h (suc j) e (omega arith))

both_narrow : (wide : Bool) (a b : List ℕ) → IsNarrow wide a → IsNarrow wide b → IsNarrow wide (a ++ b)
both_narrow true a b h k = tt
both_narrow false a b h k = All-append (λ u. u < 256) a b h k

front_of : (wide : Bool) (a b : List ℕ) → IsNarrow wide (a ++ b) → IsNarrow wide a
front_of true a b h = tt
front_of false a b h = front_narrow a b h

rest_of : (wide : Bool) (a b : List ℕ) → IsNarrow wide (a ++ b) → IsNarrow wide b
rest_of true a b h = tt
rest_of false a b h = rest_narrow a b h

module _ (a b : List ℕ) (n : ℕ) (wide : Bool) where
  pub join_by : (r : Bool) → 1 ≤ length a → 1 ≤ length b → length a + length b ≡ n → IsNarrow wide a → IsTrue r ↔ IsNarrow wide b → IsTrue r ↔ Join a b n wide
  join_by r one two all front test = ((λ h. (one, two, all, both_narrow wide a b front (test.0 h))), (λ j. test.1 (rest_of wide a b j.3)))

  pub join_not : (IsNarrow wide a → ⊥) → IsTrue false ↔ Join a b n wide
  join_not not = ((λ (e : false ≡ true). absurd (cc)), (λ j. absurd (not (front_of wide a b j.3))))
