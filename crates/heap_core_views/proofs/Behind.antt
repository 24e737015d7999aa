-- The tests of the code over a view: a lane that differs, and the slots before one on a path.
use Rattle.std.proofs.Common.{◌≡◌, ℕ, zero, suc, ◌+◌, ◌-◌, ◌%◌, ◌<◌, Bool, true, false, ◌||◌, List, sym, refl, ap, ◌∙◌, subst, arith, IsTrue, ◌↔◌}
use mathlib.Core.Logic.{dite}
use native.Mathlib.Decide.{ℕ_discrete}
use Rattle.js_units.specs.Lanes.{hash_of}
use Rattle.heap_rule.specs.declared.view.View.{View}
use Rattle.heap_rule.specs.Paths.{rank, path_slot}
use Rattle.heap_rule.specs.Slots.{IsShutAt}
use Rattle.heap_rule.specs.SlotTests.{any_below, shut_at}
use Rattle.heap_core_views.specs.Probing.{IsBehind}
use Rattle.heap_rule.proofs.Paths.{Below, rank_inside, rank_place, place_inside, ranks_next}
use Rattle.heap_rule.proofs.SlotTests.{shut_at_decides}

module _ (test : ℕ → Bool) where
  or_right : (a b : Bool) → b ≡ true → (a || b) ≡ true
  or_right true b e = refl
  or_right false b e = e

  or_false : (a b : Bool) → a ≡ false → b ≡ false → (a || b) ≡ false
  or_false a b e h = ap (λ (x : Bool). x || b) e ∙ h

  or_left : (a b : Bool) → a ≡ true → (a || b) ≡ true
  or_left a b e = ap (λ (x : Bool). x || b) e

  pub any_at : (n k : ℕ) → k < n → test k ≡ true → any_below test n ≡ true
  any_at zero k l e = absurd (omega arith)
  any_at (suc n) k l e = dite (ℕ_discrete k n) (λ is. or_left (test n) (any_below test n) (ap test (sym is) ∙ e)) (λ ne. or_right (test n) (any_below test n) (any_at n k (omega arith) e))

  pub any_next : (n : ℕ) → any_below test n ≡ false → test n ≡ false → any_below test (n + 1) ≡ false
  any_next n e h = let one : suc n ≡ n + 1 = omega arith in subst (λ (m : ℕ). any_below test m ≡ false) one (or_false (test n) (any_below test n) h e)

false_true : false ≡ true → ⊥
false_true e = cc

module _ (v : View) (us : List ℕ) (h : ℕ) (e : h ≡ hash_of us) where
  to_place : (P : ℕ → Type 0) (n r : ℕ) → P ((h % n + r) % n) → P (path_slot us n r)
  to_place P n r x = subst (λ (y : ℕ). P ((y % n + r) % n)) e x

  code_rank : (n k : ℕ) → (k + (n - h % n)) % n ≡ rank us n k
  code_rank n k = ap (λ (y : ℕ). (k + (n - y % n)) % n) e

  pub behind_next : (n r : ℕ) → Below (IsShutAt v us) us n r → shut_at v us ((h % n + r) % n) ≡ true → Below (IsShutAt v us) us n (r + 1)
  behind_next n r p s = ranks_next (IsShutAt v us) us n r p (to_place (IsShutAt v us) n r ((shut_at_decides v us ((h % n + r) % n)).0 s))

  pub behind_all : (k : ℕ) → Below (IsShutAt v us) us v.sizes.slots ((k + (v.sizes.slots - h % v.sizes.slots)) % v.sizes.slots) → IsTrue true ↔ IsBehind v us k
  behind_all k p = ((λ t. subst (Below (IsShutAt v us) us v.sizes.slots) (code_rank v.sizes.slots k) p), (λ b. refl))

  pub behind_not : (k r : ℕ) → k < v.sizes.slots → r < (k + (v.sizes.slots - h % v.sizes.slots)) % v.sizes.slots → shut_at v us
      ((h % v.sizes.slots + r) % v.sizes.slots) ≡ false → IsTrue false ↔ IsBehind v us k
  behind_not k r inside l s = let n : ℕ = v.sizes.slots in let m : r < rank us n k = subst (λ (x : ℕ). r < x) (code_rank n k) l in let top : rank us n k < n = rank_inside us n k inside in
      let r' : ℕ = rank us n k in let small : r < n = (let m' : r < r' = m in let top' : r' < n = top in omega arith) in
      let other : shut_at v us (path_slot us n r) ≡ false = to_place (λ x. shut_at v us x ≡ false) n r s in (
        (λ t. absurd (false_true t)),
        (λ b. absurd (false_true (sym other ∙ (shut_at_decides v us (path_slot us n r)).1
            (b (path_slot us n r) (place_inside us n r small) (subst (λ (x : ℕ). x < r') (sym (rank_place us n r small)) m))))),
      )
