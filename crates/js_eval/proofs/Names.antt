-- Names that are read, in a store.
use Rattle.std.proofs.Common.{◌≡◌, ℕ, List, refl, ap, ◌∙◌, subst, Option, Some, None, option_map, Ok}
use Rattle.js_store.specs.State.{State}
use Rattle.js_item.specs.declared.item.Item.{Item}
use Rattle.eval_values.specs.declared.value.Kind.TheVariants.{ReferenceError}
use Rattle.eval_values.specs.declared.value.Stop.TheVariants.{Threw}
use Rattle.js_item.specs.Seen.{Val, seen}
use Rattle.js_item.specs.Fine.{IsFine}
use Rattle.eval_values.specs.Does.{GivesValue}
use Rattle.eval_values.specs.Ran.{StopsAs}
use Rattle.eval_values.proofs.Compose.{ran_free}
use Rattle.eval_scopes.specs.Bindings.{Bound, Bindings, meant}
use Rattle.js_eval.specs.Expression.{read_out}
use Rattle.js_eval.specs.Seen.{bound_seen, bindings_seen}
use Rattle.js_item.specs.Views.{content_of}
use Rattle.js_eval.specs.Seen.{BindingsFine}
use Rattle.js_eval.proofs.Mapped.{meant_by, bound_by}
use Rattle.js_eval.proofs.Kept.{FoundFine, meant_fine}
use Rattle.eval_values.proofs.Copied.{seen_copy, fine_copy}
use Rattle.js_eval.proofs.Copied.{ran_seen}

module _ {F R : Type 0} (s : State F) (name : R → ℕ) where
  -- a name that means nothing
  pub meant_none : (bs : Bindings (Item R)) (x : List ℕ) → meant bs x ≡ None → meant (bindings_seen s name bs) x ≡ None
  meant_none bs x e = meant_by (λ v. seen s name v) bs x ∙ ap (λ (o : Option (Bound (Item R))). option_map (λ b. bound_by (λ v. seen s name v) b) o) e

  pub meant_some : (bs : Bindings (Item R)) (x : List ℕ) (b : Bound (Item R)) → meant bs x ≡ Some b → meant (bindings_seen s name bs) x ≡ Some (bound_seen s name b)
  meant_some bs x b e = meant_by (λ v. seen s name v) bs x ∙ ap (λ (o : Option (Bound (Item R))). option_map (λ b. bound_by (λ v. seen s name v) b) o) e

  pub unread : (bs : Bindings (Item R)) (x : List ℕ) → meant bs x ≡ None → StopsAs {A = Val} s s (Threw ReferenceError) (read_out (meant (bindings_seen s name bs) x))
  unread bs x e = rw (meant_none bs x e) (refl, ran_free s)

  -- a name whose value was copied
  pub read_one : (bs : Bindings (Item R)) (x : List ℕ) (b : Bound (Item R)) (v : Item R) → meant bs x ≡ Some b → IsFine s name b.value →
      content_of v ≡ content_of b.value → GivesValue name s s (Ok v) (read_out (meant (bindings_seen s name bs) x))
  read_one bs x b v e h k = rw (meant_some bs x b e) (record { is = seen_copy s name v b.value k; good = fine_copy s name v b.value k h; ran = ran_seen s name b.value h })

  pub found_value : (bs : Bindings (Item R)) (x : List ℕ) (b : Bound (Item R)) → meant bs x ≡ Some b → BindingsFine s name bs → IsFine s name b.value
  found_value bs x b e h = subst (λ (o : Option (Bound (Item R))). FoundFine s name o) e (meant_fine s name bs x h)
