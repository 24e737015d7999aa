-- The tests are true exactly where what they test is so.
use Rattle.std.proofs.Common.{◌≡◌, ◌≢◌, ℕ, ◌+◌, ◌/◌, ◌<◌, Bool, List, length, sym, refl, ap, ◌∙◌, subst, arith, Option, Some, None, Decides, IsTrue, ◌↔◌, nat_eq, ◌==◌}
use Rattle.std.proofs.lemmas.Bool.Decides.{Decides-eqb, Decides-not, Decides-or, Decides-like, Decides-below_and, Decides-below_or}
use Rattle.std.specs.Prelude.{slice_index, Contains}
use Rattle.std.specs.FinMap.{get}
use Rattle.std.specs.Cmp.Lexicographic.{pointwise, bytes_decides}
use Rattle.js_units.specs.Lanes.{lane_count}
use Rattle.js_header.specs.declared.form.Form.{Form}
use Rattle.js_header.specs.declared.form.Form.TheVariants.{Unborn, Flat, Cons, Sliced, Thin}
use Rattle.heap_rule.specs.declared.view.View.{View}
use Rattle.heap_rule.specs.declared.size.HeapSize.{HeapSize}
use Rattle.heap_rule.specs.Contents.{lane_in, units_of}
use Rattle.heap_rule.specs.Maps.{Has}
use Rattle.heap_rule.specs.Views.{history}
use Rattle.std.proofs.Math.Logic.{∥∥₁_elim}
use Rattle.std.proofs.Props.{props}
use Rattle.heap_rule.specs.Sound.{IsPossible, StandsIn}
use Rattle.heap_rule.specs.Slots.{Differs, IsShutAt}
use Rattle.heap_rule.specs.SlotTests.{passes, all_below, any_below, other_length, other_units, other_lane, other_flat, differs, shut_at, shut}
use Rattle.heap_rule.proofs.Slots.{differs_right}

pub passes_decides : {X : Type 0} (test : X → Bool) (P : X → Type 0) → ((x : X) → Decides (test x) (P x)) → (o : Option X) → Decides (passes test o) ((x : X) × (o ≡ Some x) × P x)
passes_decides test P each None = ((λ h. absurd (cc)), (λ t. let e = t.1 in absurd (cc)))
passes_decides test P each (Some x) = ((λ h. (x, refl, (each x).0 h)), (λ t. let e = t.1 in let s : x ≡ t.0 = cc in ap test s ∙ (each t.0).1 t.2))

module _ (v : View) (us : List ℕ) where
  abbrev HasOtherLane : Bool → ℕ → ℕ → Type 0
  HasOtherLane wide start o = (x : ℕ) × Has v.frozen (start + o / lane_count wide) x × (lane_in (λ _. x) wide start o ≢ slice_index us o)

  lane_decides : (wide : Bool) (start o : ℕ) → Decides (other_lane v us wide start o) (HasOtherLane wide start o)
  lane_decides wide start o = passes_decides _ (λ x. lane_in (λ _. x) wide start o ≢ slice_index us o)
      (λ x. Decides-not (lane_in (λ _. x) wide start o == slice_index us o) (Decides-eqb _ _)) (get v.frozen (start + o / lane_count wide))

  abbrev IsOtherFlat : Form → Type 0
  IsOtherFlat Unborn = ⊥
  IsOtherFlat (Flat wide start fixed) = (o : ℕ) × (o < length us) × HasOtherLane wide start o
  IsOtherFlat (Cons wide left right) = ⊥
  IsOtherFlat (Sliced wide parent offset) = ⊥
  IsOtherFlat (Thin target) = ⊥

  flat_decides : (f : Form) → Decides (other_flat v us f) (IsOtherFlat f)
  flat_decides Unborn = ((λ h. absurd (cc)), (λ h. absurd h))
  flat_decides (Flat wide start fixed) = Decides-below_or (other_lane v us wide start) (HasOtherLane wide start)
      (any_below (other_lane v us wide start)) (lane_decides wide start) refl (λ _. refl) (length us)
  flat_decides (Cons wide left right) = ((λ h. absurd (cc)), (λ h. absurd h))
  flat_decides (Sliced wide parent offset) = ((λ h. absurd (cc)), (λ h. absurd h))
  flat_decides (Thin target) = ((λ h. absurd (cc)), (λ h. absurd h))

  abbrev ByLane : ℕ → Type 0
  ByLane i = (wide : Bool) × (start : ℕ) × (fixed : Bool) × (o : ℕ) × (x : ℕ) × Has v.forms i (Flat wide start fixed) × (o < length us)
      × Has v.frozen (start + o / lane_count wide) x × (lane_in (λ _. x) wide start o ≢ slice_index us o)

  by_lane : (i : ℕ) (f : Form) → Has v.forms i f → IsOtherFlat f → ByLane i
  by_lane i Unborn h p = absurd p
  by_lane i (Flat wide start fixed) h p = (wide, start, fixed, p.0, p.2.0, h, p.1, p.2.1, p.2.2)
  by_lane i (Cons wide left right) h p = absurd p
  by_lane i (Sliced wide parent offset) h p = absurd p
  by_lane i (Thin target) h p = absurd p

  forms_decide : (i : ℕ) → Decides (passes (other_flat v us) (get v.forms i)) (ByLane i)
  forms_decide i = Decides-like _ (λ t. by_lane i t.0 t.1 t.2) (λ t. (Flat t.0 t.1 t.2, t.5, (t.3, t.6, (t.4, t.7, t.8)))) (passes_decides (other_flat v us) IsOtherFlat flat_decides (get v.forms i))

  pub differs_decides : (i : ℕ) → Decides (differs v us i) (Differs v us i)
  unfolding differs
  differs_decides i = Decides-or _ _ (passes_decides (other_length v us) (λ n. n ≢ length us) (λ n. Decides-not (n == length us) (Decides-eqb n (length us))) (get v.lengths i))
      (Decides-or _ _ (passes_decides (other_units v us) (λ ws. ws ≢ us) (λ ws. Decides-not (pointwise nat_eq ws us) (bytes_decides ws us)) (get v.units i)) (forms_decide i))

  pub shut_at_decides : (k : ℕ) → Decides (shut_at v us k) (IsShutAt v us k)
  shut_at_decides k = passes_decides (differs v us) (Differs v us) differs_decides (get v.slots k)

  pub shut_decides : (n : ℕ) → Decides (shut v us n) ((k : ℕ) → k < n → IsShutAt v us k)
  unfolding shut
  shut_decides n = Decides-below_and (shut_at v us) (IsShutAt v us) (all_below (shut_at v us)) shut_at_decides refl (λ _. refl) n

  -- the same, as clauses say it
  pub differs_exactly : (i : ℕ) → IsTrue (differs v us i) ↔ Differs v us i
  differs_exactly i = differs_decides i

  pub shut_exactly : (n : ℕ) → IsTrue (shut v us n) ↔ ((k : ℕ) → k < n → IsShutAt v us k)
  shut_exactly n = shut_decides n

apart_in : (v : View) → StandsIn v → (us : List ℕ) → IsTrue (shut v us v.sizes.slots) → (i : ℕ) → Contains (history v) (us, i) → ⊥
apart_in v (z, agents, W, vs, j, s, at, live) us h i c = let know = s.knows j v at live in let r = s.recalls j v at live us i c in let p = know.of_slots r.0.0 i r.0.1 in
    let inside = subst (λ (y : HeapSize). r.0.0 < y.slots) (sym (s.members j v at live).1) p.0 in
    let t = (shut_decides v us v.sizes.slots).0 h r.0.0 inside in let q = know.of_slots r.0.0 t.0 t.1 in let is : t.0 ≡ i = (let a = p.1 in let b = q.1 in omega arith) in
    differs_right z agents W vs s v know us t.0 (s.slots r.0.0 t.0 q.0 q.1).born t.2 (ap (units_of z W) is ∙ sym r.1)

-- a list that is shut stands in no call of the history
pub possible_apart : (v : View) → IsPossible v → (us : List ℕ) → IsTrue (shut v us v.sizes.slots) → (i : ℕ) → Contains (history v) (us, i) → ⊥
possible_apart v p us h i c = ∥∥₁_elim p (Prim.hlevel props) (λ t. apart_in v t us h i c)
