-- What a view knows of the string that it saw in a slot.
use Rattle.std.proofs.Common.{◌≡◌, ◌⊎◌, inl, inr, ℕ, zero, suc, ◌<◌, ◌≤◌, List, [], ◌∷◌, length, get_or, refl, sym, ap, ◌∙◌, subst, arith, Option, Some, None}
use Rattle.std.specs.Prelude.{option_and_then}
use Rattle.std.specs.FinMap.{get, get-empty}
use Rattle.std.specs.Ordering.{nat_cmp}
use Rattle.std.proofs.lemmas.Bool.{cases_lt}
use Rattle.heap_rule.specs.declared.view.View.{View}
use Rattle.heap_rule.specs.Agents.{spent}
use Rattle.heap_rule.proofs.ListLemmas.{at_index}
use Rattle.heap_core.specs.Core.{Core}
use Rattle.heap_core.specs.Events.{HasEntry, view_at}
use Rattle.heap_rule.specs.Sound.{At}
use Rattle.heap_schedule.specs.Play.{slot_units}

none_or_some : {A : Type 0} (o : Option A) → (o ≡ None) ⊎ ((x : A) × (o ≡ Some x))
none_or_some None = inl refl
none_or_some (Some x) = inr (x, refl)

parts : {A B : Type 0} (f : A → Option B) (o : Option A) (y : B) → option_and_then f o ≡ Some y → (x : A) × (o ≡ Some x) × (f x ≡ Some y)
parts f None y e = absurd (cc)
parts f (Some x) y e = (x, refl, e)

past_end : {A : Type 0} (xs : List A) (j : ℕ) (d : A) → length xs ≤ j → get_or xs j d ≡ d
past_end [] j d h = refl
past_end (x ∷ xs) zero d h = absurd (omega arith)
past_end (x ∷ xs) (suc j) d h = past_end xs j d (omega arith)

at_own : {A : Type 0} (xs : List A) (j : ℕ) (d : A) → j < length xs → At xs j (get_or xs j d)
at_own [] j d h = absurd (omega arith)
at_own (x ∷ xs) zero d h = refl
at_own (x ∷ xs) (suc j) d h = at_own xs j d (omega arith)

pub has_entry : (s : Core) (j k : ℕ) (us : List ℕ) → HasEntry s j k us → slot_units s j k ≡ Some us
has_entry s j k us e =
    let v : view_at s j ≡ e.0 = at_index s.views j e.0 spent e.2 in
    subst (λ (w : View). option_and_then (λ i. get w.units i) (get w.slots k) ≡ Some us) (sym v)
    (ap (option_and_then (λ i. get e.0.units i)) e.3 ∙ e.4)

pub no_entry : (s : Core) (j k : ℕ) → ((us : List ℕ) → HasEntry s j k us → ⊥) → slot_units s j k ≡ None
no_entry s j k none = elim (cases_lt j (length s.views)) [
  | inl l ↦ elim (none_or_some (slot_units s j k)) [
    | inl n ↦ n
    | inr us ↦ (let p = parts (λ i. get (view_at s j).units i) (get (view_at s j).slots k) us.0 us.1 in
        absurd (none us.0 (view_at s j, p.0, at_own s.views j spent l, p.1, p.2)))
  ]
  | inr g ↦ subst (λ (w : View). option_and_then (λ i. get w.units i) (get w.slots k) ≡ None) (sym (past_end s.views j spent g))
      (ap (option_and_then (λ i. get spent.units i)) (get-empty nat_cmp k))
]
