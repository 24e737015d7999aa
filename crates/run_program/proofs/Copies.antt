-- What bindings stand for stays while the store grows, and a copy of them stands for the same.
use Rattle.std.proofs.Common.{◌≡◌, ℕ, List, [], ◌∷◌, map, refl, sym, ap, subst, ◌∙◌}
use Rattle.js_store.specs.State.{State, Grows}
use Rattle.js_texts.proofs.Lists.{every_map, map_same}
use Rattle.eval_scopes.specs.declared.binding_list.Binding.{Binding}
use Rattle.eval_scopes.specs.Bindings.{Bound}
use Rattle.eval_scopes.specs.Seen.{bound_of, bounds_of}
use Rattle.js_item.specs.declared.item.Item.{Item}
use Rattle.js_item.specs.Contents.{Content}
use Rattle.js_item.specs.Seen.{Val, says, content_mapped}
use Rattle.js_item.specs.Fine.{strings_of, FineOf, IsFine}
use Rattle.eval_values.proofs.Still.{seen_still, fine_still}
use Rattle.js_eval.specs.Copies.{BoundContent, bound_content}
use Rattle.js_eval.specs.Seen.{BoundsFine, bound_seen, bounds_seen}

module _ {F R : Type 0} (a b : State F) (name : R → ℕ) (g : Grows a b) where
  bound_still : (e : Bound (Item R)) → IsFine a name e.value → bound_seen b name e ≡ bound_seen a name e
  bound_still e h = cc (seen_still a b name g e.value h)

  pub bounds_still : (bs : List (Bound (Item R))) → BoundsFine a name bs → bounds_seen b name bs ≡ bounds_seen a name bs
  bounds_still bs h = map_same bound_still bs h

  pub bounds_fine_still : (bs : List (Bound (Item R))) → BoundsFine a name bs → BoundsFine b name bs
  bounds_fine_still bs h = every_map (λ e k. fine_still a b name g e.value k) bs h

module _ {F R : Type 0} (s : State F) (name : R → ℕ) where
  abbrev bound_by : BoundContent R → Bound Val
  bound_by c = record { name = c.name; constant = c.constant; value = content_mapped (says s name) c.value }

  bounds_are : (bs : List (Binding (Item R))) → bounds_seen s name (bounds_of bs) ≡ map bound_by (map bound_content bs)
  bounds_are [] = refl
  bounds_are (b ∷ bs) = ap (λ cs. bound_by (bound_content b) ∷ cs) (bounds_are bs)

  pub bounds_copy : (bs cs : List (Binding (Item R))) → map bound_content bs ≡ map bound_content cs → bounds_seen s name (bounds_of bs) ≡ bounds_seen s name (bounds_of cs)
  bounds_copy bs cs e = bounds_are bs ∙ (ap (map bound_by) e ∙ sym (bounds_are cs))

  pub bounds_fine_copy : (bs cs : List (Binding (Item R))) → map bound_content bs ≡ map bound_content cs → BoundsFine s name (bounds_of cs) → BoundsFine s name (bounds_of bs)
  bounds_fine_copy [] cs e h = tt
  bounds_fine_copy (b ∷ bs) [] e h = cc
  bounds_fine_copy (b ∷ bs) (c ∷ cs) e h =
      let front : bound_content b ≡ bound_content c = cc in
      let rest : map bound_content bs ≡ map bound_content cs = cc in (
        subst (λ (x : Content R). FineOf (strings_of s) name x) (sym (ap (λ d. d.value) front)) h.0,
        bounds_fine_copy bs cs rest h.1,
      )
