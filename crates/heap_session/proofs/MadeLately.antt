-- The strings that a session made lately stay what they are over each call.
use Rattle.std.proofs.Common.{◌≡◌, ◌∙◌, ◌↔◌, ℕ, Bool, IsTrue, ◌+◌, ◌-◌, ◌<◌, List, get_or, set, length, take, subst, sym, ap, arith}
use Rattle.std.proofs.lemmas.List.{get_or-set_same, get_or-set_other, take_all}
use Rattle.std.specs.Prelude.{slice_index, slice_range}
use mathlib.Core.Logic.{dite}
use native.Mathlib.Decide.{ℕ_discrete}
use Rattle.heap_rule.specs.declared.view.View.{View}
use Rattle.heap_rule.proofs.MapLemmas.{has_key, key_of}
use Rattle.heap_table.specs.Known.{KeepsKnown}
use Rattle.heap_session.specs.Recent.{AreRecent, IsRecent}
use Rattle.heap_session.proofs.States.{settled_same}

pub recent_by : (v w : View) → KeepsKnown v w → (ids : List ℕ) → AreRecent v ids → AreRecent w ids
recent_by v w k ids h place some = let id : ℕ = slice_index ids place in let p = h place some in let u = has_key v.units id p.0 in
    (key_of w.units id u.0 (k.units id u.0 u.1), settled_same v w k id p.1)

-- a list of zeros names no string
pub recent_none : (v : View) (ids : List ℕ) → ((place : ℕ) → slice_index ids place ≡ 0) → AreRecent v ids
recent_none v ids e place some = let z = e place in absurd (omega arith)

-- one more string
pub recent_with : (v : View) (ids : List ℕ) (place id : ℕ) → place < length ids → AreRecent v ids → IsRecent v id → AreRecent v (set ids place id)
recent_with v ids place id less h one other some = dite (ℕ_discrete other place)
    (λ (e : other ≡ place). let same : slice_index (set ids place id) other ≡ id = ap (λ k. get_or (set ids place id) k 0) e ∙ get_or-set_same ids place id 0 less in
    subst (λ i. IsRecent v i) (sym same) one)
    (λ ne. let same : slice_index (set ids place id) other ≡ slice_index ids other = get_or-set_other ids place other id 0 ne in
    subst (λ i. IsRecent v i) (sym same) (h other (subst (λ i. 0 < i) same some)))

-- what was read of a list, from its first unit to its last
pub read_whole : (us into : List ℕ) (n : ℕ) → n ≡ length us → into ≡ slice_range us 0 (0 + n) → into ≡ us
read_whole us into n e read = read ∙ subst (λ m. take m us ≡ us) (let d : n ≡ 0 + n - 0 = omega arith in d) (take_all n us (omega arith))

-- so a test of what was read is one of the list
pub same_by : (b : Bool) (us into ws : List ℕ) → into ≡ us → IsTrue b ↔ (into ≡ ws) → IsTrue b ↔ (us ≡ ws)
same_by b us into ws e same = (λ t. sym e ∙ same.0 t, λ w. same.1 (e ∙ w))
