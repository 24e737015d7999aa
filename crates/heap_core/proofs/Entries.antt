-- The entry of a slot: the units that a view has of the string that it saw there.
use Rattle.std.proofs.Common.{◌≡◌, ℕ, ◌≤◌, List, length, sym, refl, ap, ◌∙◌, arith, Option, Some, None, Bor}
use Rattle.std.specs.Prelude.{IfSome, IsNone}
use Rattle.std.specs.Option.{option_copied}
use Rattle.std.specs.FinMap.{get}
use mathlib.Core.Option.{some-injective}
use Rattle.heap_rule.specs.declared.view.View.{View}
use Rattle.heap_rule.specs.Sound.{At}
use Rattle.heap_core.specs.Core.{Core}
use Rattle.heap_core.specs.Events.{HasEntry}
use Rattle.heap_rule.proofs.ListLemmas.{at_within}

pub no_view : (s : Core) (j k : ℕ) → length s.views ≤ j → (us : List ℕ) → HasEntry s j k us → ⊥
no_view s j k h us e = let l = at_within s.views j e.0 e.2 in absurd (omega arith)

module _ (s : Core) (j k : ℕ) (v : View) (at : At s.views j v) where
  same_view : (us : List ℕ) (e : HasEntry s j k us) → e.0 ≡ v
  same_view us e = some-injective e.0 v (sym e.2 ∙ at)

  pub no_slot : get v.slots k ≡ None → (us : List ℕ) → HasEntry s j k us → ⊥
  no_slot none us e = let here : get v.slots k ≡ Some e.1 = ap (λ (w : View). get w.slots k) (sym (same_view us e)) ∙ e.3 in let both : None ≡ Some e.1 = sym none ∙ here in cc

  module _ (i : ℕ) (slot : get v.slots k ≡ Some i) where
    of_view : (us : List ℕ) → HasEntry s j k us → get v.units i ≡ Some us
    of_view us e = let is = same_view us e in let here : get v.slots k ≡ Some e.1 = ap (λ (w : View). get w.slots k) (sym is) ∙ e.3 in
        let both : Some i ≡ Some e.1 = sym slot ∙ here in let id : i ≡ e.1 = cc in
        (λ d. get (sym is d).units (id d)) ∙ e.4

    pub if_units : (r : Option (Bor (List ℕ))) → option_copied r ≡ get v.units i → IfSome r (λ us. HasEntry s j k us.now)
    if_units (Some us) e = (v, i, at, slot, sym e)
    if_units None e = tt

    pub no_units : (r : Option (Bor (List ℕ))) → option_copied r ≡ get v.units i → (IsNone r → (us : List ℕ) → HasEntry s j k us → ⊥) × (((us : List ℕ) → HasEntry s j k us → ⊥) → IsNone r)
    no_units (Some us) e = ((λ n. absurd (cc)), (λ f. absurd (f us.now (v, i, at, slot, sym e))))
    no_units None e = ((λ _ us h. let both : None ≡ Some us = e ∙ of_view us h in absurd (cc)), (λ _. refl))
