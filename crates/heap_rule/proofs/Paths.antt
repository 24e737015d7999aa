-- A slot stands on the path of a list at its rank, and each slot stands there.
use Rattle.std.proofs.Common.{◌≡◌, ◌≢◌, ℕ, zero, suc, ◌+◌, ◌-◌, ◌%◌, ◌<◌, List, length, get_or, sym, refl, ap, ◌∙◌, subst, arith}
use mathlib.Core.Logic.{dite}
use native.Mathlib.Decide.{ℕ_discrete}
use Rattle.std.proofs.Math.Nat.{mod-lt, mod-eq_of_lt, add-mod-mod, mod-add-mod, add-mod_right}
use Rattle.js_units.specs.Lanes.{hash_of}
use Rattle.heap_rule.specs.Paths.{path_from, path, rank, path_slot}

length_from : (n k m : ℕ) → length (path_from n k m) ≡ m
length_from n k zero = refl
length_from n k (suc m) = ap suc (length_from n (suc k) m)

pub path_length : (u : List ℕ) (n : ℕ) → length (path u n) ≡ n
path_length u n = length_from n (hash_of u % n) n

step_from : (n k m r : ℕ) → r < m → get_or (path_from n k m) r 0 ≡ (k + r) % n
step_from n k zero r l = absurd (omega arith)
step_from n k (suc m) zero l = let e : k ≡ k + 0 = omega arith in ap (λ (x : ℕ). x % n) e
step_from n k (suc m) (suc r) l = let e : suc k + r ≡ k + suc r = omega arith in step_from n (suc k) m r (omega arith) ∙ ap (λ (x : ℕ). x % n) e

pub rank_inside : (u : List ℕ) (n k : ℕ) → k < n → rank u n k < n
rank_inside u n k l = mod-lt (k + (n - hash_of u % n)) (omega arith)

pub path_at : (u : List ℕ) (n k : ℕ) → k < n → get_or (path u n) (rank u n k) 0 ≡ k
path_at u n k l = let c : ℕ = hash_of u % n in let small : c < n = mod-lt (hash_of u) (omega arith) in let e : c + (k + (n - c)) ≡ k + n = omega arith in
    step_from n c n (rank u n k) (rank_inside u n k l) ∙ (add-mod-mod c (k + (n - c)) n ∙ (ap (λ (x : ℕ). x % n) e ∙ (add-mod_right k n ∙ mod-eq_of_lt l)))

pub place_inside : (u : List ℕ) (n r : ℕ) → r < n → path_slot u n r < n
place_inside u n r l = mod-lt (hash_of u % n + r) (omega arith)

pub rank_place : (u : List ℕ) (n r : ℕ) → r < n → rank u n (path_slot u n r) ≡ r
rank_place u n r l = let c : ℕ = hash_of u % n in let small : c < n = mod-lt (hash_of u) (omega arith) in let e : c + r + (n - c) ≡ r + n = omega arith in
    mod-add-mod (c + r) n (n - c) ∙ (ap (λ (x : ℕ). x % n) e ∙ (add-mod_right r n ∙ mod-eq_of_lt l))

pub place_rank : (u : List ℕ) (n k : ℕ) → k < n → path_slot u n (rank u n k) ≡ k
place_rank u n k l = let c : ℕ = hash_of u % n in let small : c < n = mod-lt (hash_of u) (omega arith) in let e : c + (k + (n - c)) ≡ k + n = omega arith in
    add-mod-mod c (k + (n - c)) n ∙ (ap (λ (x : ℕ). x % n) e ∙ (add-mod_right k n ∙ mod-eq_of_lt l))

-- a walk along the path, for any property of slots: one rank more, and all slots in the end
module _ (P : ℕ → Type 0) (u : List ℕ) (n : ℕ) where
  abbrev pub Below : ℕ → Type 0
  Below r = (j : ℕ) → j < n → rank u n j < r → P j

  pub ranks_none : Below 0
  ranks_none j l h = absurd (omega arith)

  pub ranks_next : (r : ℕ) → Below r → P (path_slot u n r) → Below (r + 1)
  ranks_next r p here j l m = dite (ℕ_discrete (rank u n j) r)
      (λ e. subst P (ap (path_slot u n) (sym e) ∙ place_rank u n j l) here)
      (λ ne. let k : ℕ = rank u n j in let m' : k < r + 1 = m in let ne' : k ≢ r = ne in let lt : k < r = omega arith in p j l lt)

  pub ranks_all : Below n → (j : ℕ) → j < n → P j
  ranks_all p j l = p j l (rank_inside u n j l)

  -- the ranks below that of the slot of rank r
  pub ranks_before : (r : ℕ) → r < n → Below r → Below (rank u n (path_slot u n r))
  ranks_before r l p j m h = p j m (subst (λ (x : ℕ). rank u n j < x) (rank_place u n r l) h)
