-- One compare-exchange that claims several ids is that many claims in turn.
use Rattle.std.proofs.Common.{◌≡◌, ◌≢◌, ℕ, zero, suc, ◌+◌, ◌≤◌, Bool, true, false, cond, List, [], ◌∷◌, eqb, eq-eqb, ne_eqb, refl, ap, sym, subst, ◌∙◌, arith}
use native.Mathlib.Decide.{ℕ_discrete}
use Rattle.heap_rule.specs.declared.view.View.{View}
use Rattle.heap_rule.specs.declared.size.Counter.TheVariants.{Ids}
use Rattle.heap_rule.specs.Claims.{MayClaimAtOnce, claimed, loaded_counter, won_claim}
use Rattle.heap_rule.specs.Maps.{with_run}
use Rattle.heap_rule.specs.Kinds.{StepKind, ClaimsInTurn, MayComeInTurn, claim, claims_of_ids, exchanges, view_in_turn, word_in_turn, word_left}

-- a claim of one id that finds the counter where it was seen
won_one : (v : View) (at : ℕ) → claimed v Ids at 1 at ≡ won_claim v Ids at 1
won_one v at = ap (λ (b : Bool). cond b (won_claim v Ids at 1) (loaded_counter v Ids at)) (eq-eqb at at refl)

left_one : (at : ℕ) → word_left (exchanges at (at + 1)) at ≡ suc at
left_one at = ap (λ (b : Bool). cond b (at + 1) at) (eq-eqb at at refl) ∙ omega arith

-- one id and then n more are suc n of them
one_more : (v : View) (at n : ℕ) → won_claim (won_claim v Ids at 1) Ids (suc at) n ≡ won_claim v Ids at (suc n)
one_more v at n = let used : v.used.ids + 1 + n ≡ v.used.ids + suc n = omega arith in let low : suc at + n ≡ at + suc n = omega arith in
    λ i. record v {
      own_ids = with_run v.own_ids at (suc n) 0;
      used = record v.used { ids = used i };
      low = record v.low { ids = low i };
    }

-- no id more, where the counter was seen at its place
none_more : (v : View) (at : ℕ) → v.low.ids ≡ at → v ≡ won_claim v Ids at 0
none_more v at e = let used : v.used.ids ≡ v.used.ids + 0 = omega arith in let low : v.low.ids ≡ at + 0 = e ∙ omega arith in
    λ i. record v { used = record v.used { ids = used i }; low = record v.low { ids = low i } }

-- n claims that find the counter where it was seen last
views_run : (v : View) (at n : ℕ) → v.low.ids ≡ at → view_in_turn v (claims_of_ids at n) at ≡ won_claim v Ids at n
views_run v at zero e = none_more v at e
views_run v at (suc n) e = (λ i. view_in_turn (won_one v at i) (claims_of_ids (suc at) n) (left_one at i))
    ∙ (views_run (won_claim v Ids at 1) (suc at) n (omega arith) ∙ one_more v at n)

words_run : (at n : ℕ) → word_in_turn (claims_of_ids at n) at ≡ at + n
words_run at zero = omega arith
words_run at (suc n) = let e : suc at + n ≡ at + suc n = omega arith in
    ap (λ (x : ℕ). word_in_turn (claims_of_ids (suc at) n) x) (left_one at) ∙ (words_run (suc at) n ∙ e)

may_run : (v : View) (at n : ℕ) → at ≤ v.low.ids → at + n ≤ v.sizes.ids → MayComeInTurn v (claims_of_ids at n) at
may_run v at zero low fits = tt
may_run v at (suc n) low fits = (
  (low, omega (arith, fits), omega arith, λ _. refl),
  subst (λ (p : View × ℕ). MayComeInTurn p.0 (claims_of_ids (suc at) n) p.1) (λ i. (sym (won_one v at) i, sym (left_one at) i))
      (may_run (won_claim v Ids at 1) (suc at) n (omega arith) (omega (arith, fits))),
)

-- so many, of which there is one at least
pub views_all : (v : View) (at n : ℕ) → 1 ≤ n → view_in_turn v (claims_of_ids at n) at ≡ won_claim v Ids at n
views_all v at zero some = absurd (omega (arith, some))
views_all v at (suc n) some = (λ i. view_in_turn (won_one v at i) (claims_of_ids (suc at) n) (left_one at i))
    ∙ (views_run (won_claim v Ids at 1) (suc at) n (omega arith) ∙ one_more v at n)

-- whether the counter is found where it was seen
abbrev Stands : View → ℕ → ℕ → ℕ → Bool → Type 0
Stands v at want x b = let es : List StepKind = cond b (claims_of_ids at want) (claim Ids at 1 ∷ []) in MayComeInTurn v es x
    × (word_in_turn es x ≡ cond b (at + want) x) × (view_in_turn v es x ≡ cond b (won_claim v Ids at want) (loaded_counter v Ids x))

found_there : (v : View) (at want : ℕ) → MayClaimAtOnce v Ids at want → Stands v at want at true
found_there v at want may = (may_run v at want may.0 may.1, words_run at want, views_all v at want may.2)

found_else : (v : View) (at want x : ℕ) → MayClaimAtOnce v Ids at want → x ≢ at → Stands v at want x false
found_else v at want x may ne = let fits = may.1 in let some = may.2 in (
  ((may.0, omega (arith, fits, some), omega arith, λ _. refl), tt),
  ap (λ (b : Bool). cond b (at + 1) x) (ne_eqb x at ne),
  ap (λ (b : Bool). cond b (won_claim v Ids at 1) (loaded_counter v Ids x)) (ne_eqb x at ne),
)

either_found : (v : View) (at want x : ℕ) → MayClaimAtOnce v Ids at want → Dec (x ≡ at) → Stands v at want x (eqb x at)
either_found v at want x may (yes e) = subst (Stands v at want x) (sym (eq-eqb x at e))
    (subst (λ (y : ℕ). Stands v at want y true) (sym e) (found_there v at want may))
either_found v at want x may (no ne) = subst (Stands v at want x) (sym (ne_eqb x at ne)) (found_else v at want x may ne)

pub claims_in_turn : ClaimsInTurn
claims_in_turn v at want x may = either_found v at want x may (ℕ_discrete x at)
