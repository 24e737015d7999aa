-- The strings of one unit that a session keeps stay what they are over each call.
use Rattle.std.proofs.Common.{◌≡◌, ◌∙◌, ℕ, zero, suc, ◌+◌, ◌-◌, ◌<◌, ◌≤◌, List, [], ◌∷◌, get_or, set, length, replicate, take, drop, subst, sym, ap, refl, arith}
use Rattle.std.proofs.lemmas.List.{get_or-set_same, get_or-set_other}
use Rattle.std.specs.Prelude.{slice_index, slice_range}
use mathlib.Core.Logic.{dite}
use native.Mathlib.Decide.{ℕ_discrete}
use Rattle.heap_rule.specs.declared.view.View.{View}
use Rattle.heap_table.specs.Known.{KeepsKnown}
use Rattle.heap_session.specs.Singles.{AreSingles, IsSingle}
use Rattle.heap_session.proofs.States.{settled_same}

pub singles_by : (v w : View) → KeepsKnown v w → (ids : List ℕ) → AreSingles v ids → AreSingles w ids
singles_by v w k ids h unit some = let p = h unit some in
    (k.units (slice_index ids unit) (unit ∷ []) p.0, settled_same v w k (slice_index ids unit) p.1)

-- a list of zeros names no string
pub singles_none : (v : View) (ids : List ℕ) → ((unit : ℕ) → slice_index ids unit ≡ 0) → AreSingles v ids
singles_none v ids e unit some = let z = e unit in absurd (omega arith)

pub zeros : (n i : ℕ) → slice_index (replicate n 0) i ≡ 0
zeros zero i = refl
zeros (suc n) zero = refl
zeros (suc n) (suc i) = zeros n i

-- one more string
pub singles_with : (v : View) (ids : List ℕ) (unit id : ℕ) → unit < length ids → AreSingles v ids → IsSingle v unit id → AreSingles v (set ids unit id)
singles_with v ids unit id less h one other some = dite (ℕ_discrete other unit)
    (λ (e : other ≡ unit). let same : slice_index (set ids unit id) other ≡ id = ap (λ k. get_or (set ids unit id) k 0) e ∙ get_or-set_same ids unit id 0 less in
    subst (λ i. IsSingle v other i) (sym same) (subst (λ k. IsSingle v k id) (sym e) one))
    (λ ne. let same : slice_index (set ids unit id) other ≡ slice_index ids other = get_or-set_other ids unit other id 0 ne in
    subst (λ i. IsSingle v other i) (sym same) (h other (subst (λ i. 0 < i) same some)))

-- a list of one unit
pub one_unit : (us : List ℕ) → length us ≡ 1 → us ≡ slice_index us 0 ∷ []
one_unit [] e = absurd (omega arith)
one_unit (u ∷ []) e = refl
one_unit (u ∷ w ∷ us) e = absurd (omega arith)

pub one_of_part : (us : List ℕ) (from to : ℕ) → to ≡ from + 1 → to ≤ length us → slice_range us from to ≡ slice_index us from ∷ []
one_of_part us from to e le = subst (λ n. take n (drop from us) ≡ slice_index us from ∷ []) (let d : 1 ≡ to - from = omega arith in d) (first us from (omega arith))
  where
    first : (us : List ℕ) (from : ℕ) → from < length us → take 1 (drop from us) ≡ slice_index us from ∷ []
    first [] from less = absurd (omega arith)
    first (u ∷ us) zero less = refl
    first (u ∷ us) (suc from) less = first us from (omega arith)
