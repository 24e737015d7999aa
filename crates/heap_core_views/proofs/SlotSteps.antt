-- What a step on a slot makes of a view, in the turns in which the code makes it, and that it tells no units.
use Rattle.std.proofs.Common.{◌≡◌, ◌≢◌, ℕ, zero, suc, ◌-◌, ◌<◌, Bool, List, sym, refl, ◌∙◌, subst, arith, IsTrue, ◌↔◌, Option, Some}
use Rattle.std.specs.FinMap.{insert}
use Rattle.heap_rule.specs.declared.view.View.{View}
use Rattle.heap_rule.specs.Maps.{Has}
use Rattle.heap_rule.specs.Learning.{justified, MayLearn}
use Rattle.heap_rule.specs.Slots.{with_slot, loaded_slot, took_slot, MayTakeSlot}
use Rattle.heap_core_views.specs.Loading.{HasRoom}
use Rattle.std.specs.Prelude.{All, IsSome}
use Rattle.heap_rule.specs.Slots.{MayEnter}
use Rattle.heap_core_views.specs.Probing.{with_entry, with_load, IsHeader, IsBehind, MayLoad, MayTake}

pub with_used : (v : View) (k x : ℕ) → x ≢ 0 → with_slot v k x ≡ record v { slots = insert v.slots k (x - 1); met = insert v.met (x - 1) tt }
with_used v k zero ne = absurd (ne refl)
with_used v k (suc i) ne = let e : i ≡ suc i - 1 = omega arith in λ j. record v { slots = insert v.slots k (e j); met = insert v.met (e j) tt }

pub in_turn : (v : View) (k : ℕ) (entry : Option (List ℕ)) (x : ℕ) → with_slot (with_load (with_entry v k entry) k) k x ≡ loaded_slot v k entry x
in_turn v k entry zero = refl
in_turn v k entry (suc i) = refl

pub room_loaded : (v : View) (k : ℕ) (entry : Option (List ℕ)) (x : ℕ) → HasRoom v → HasRoom (loaded_slot v k entry x)
room_loaded v k entry zero h = h
room_loaded v k entry (suc i) h = h

pub room_took : (v : View) (k i x : ℕ) → HasRoom v → HasRoom (took_slot v k i x)
room_took v k i zero h = h
room_took v k i (suc x) h = h

-- what follows from a view goes by its forms, units, lengths and frozen words alone
pub justified_loaded : (v : View) (k : ℕ) (entry : Option (List ℕ)) (x i : ℕ) → justified (loaded_slot v k entry x) i ≡ justified v i
unfolding justified
justified_loaded v k entry zero i = refl
justified_loaded v k entry (suc j) i = refl

pub justified_took : (v : View) (k t x i : ℕ) → justified (took_slot v k t x) i ≡ justified v i
unfolding justified
justified_took v k t zero i = refl
justified_took v k t (suc j) i = refl

-- the test of a claim
pub may_take : (v : View) (k i : ℕ) (us : List ℕ) (b : Bool) → k < v.sizes.slots → IsHeader v i → Has v.units i us → IsTrue b ↔ IsBehind v us k → IsTrue b ↔ MayTakeSlot v k i
may_take v k i us b inside header units test = (
  (λ t. (inside, header, (us, units, test.0 t))),
  (λ m. let r = m.2 in let both : Some r.0 ≡ Some us = sym r.1 ∙ units in let same : r.0 ≡ us = cc in test.1 (subst (λ (ws : List ℕ). IsBehind v ws k) same r.2)),
)

learn_loaded : (v : View) (k : ℕ) (entry : Option (List ℕ)) (x : ℕ) (names : List ℕ) → MayLearn v names ≡ MayLearn (loaded_slot v k entry x) names
learn_loaded v k entry x names = λ j. All (λ i. IsSome (sym (justified_loaded v k entry x i) j)) names

learn_took : (v : View) (k t x : ℕ) (names : List ℕ) → MayLearn v names ≡ MayLearn (took_slot v k t x) names
learn_took v k t x names = λ j. All (λ i. IsSome (sym (justified_took v k t x i) j)) names

pub may_load_by : (v : View) (k : ℕ) (entry : Option (List ℕ)) (names : List ℕ) (b : Bool) (x : ℕ) → k < v.sizes.slots → MayEnter v k entry
    → IsTrue b ↔ MayLearn v names → IsTrue b ↔ MayLoad v k entry names x
may_load_by v k entry names b x inside may test = let t : IsTrue b ↔ MayLearn (loaded_slot v k entry x) names = subst (λ (A : Type 0). IsTrue b ↔ A) (learn_loaded v k entry x names) test in
    ((λ h. (inside, may, t.0 h)), (λ m. t.1 m.2))

pub may_take_by : (v : View) (k i : ℕ) (names : List ℕ) (b : Bool) (x : ℕ) → MayTakeSlot v k i → IsTrue b ↔ MayLearn v names → IsTrue b ↔ MayTake v k i names x
may_take_by v k i names b x may test = let t : IsTrue b ↔ MayLearn (took_slot v k i x) names = subst (λ (A : Type 0). IsTrue b ↔ A) (learn_took v k i x names) test in
    ((λ h. (may, t.0 h)), (λ m. t.1 m.1))
