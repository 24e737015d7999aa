-- What a context stands for stays while the store grows.
use Rattle.std.proofs.Common.{◌≡◌, ℕ, List}
use Rattle.js_store.specs.State.{State, Grows}
use Rattle.js_store.proofs.Laws.{known_still, text_still}
use Rattle.js_texts.proofs.Lists.{every_map, map_same}
use Rattle.eval_scopes.specs.Bindings.{Bound, BlockFrame, Bindings}
use Rattle.eval_scopes.specs.Seen.{bindings_of}
use Rattle.js_item.specs.declared.item.Item.{Item}
use Rattle.js_item.specs.Fine.{IsFine}
use Rattle.eval_values.proofs.Still.{seen_still, fine_still}
use Rattle.js_eval.specs.declared.context.Context.{Context}
use Rattle.js_eval.specs.Seen.{bound_seen, bounds_seen, frame_seen, bindings_seen, BoundsFine, BindingsFine, ContextFine, context_bindings, scope_of}

module _ {F R : Type 0} (a b : State F) (name : R → ℕ) (g : Grows a b) where
  bound_still : (e : Bound (Item R)) → IsFine a name e.value → bound_seen b name e ≡ bound_seen a name e
  bound_still e h = cc (seen_still a b name g e.value h)

  pub bounds_still : (bs : List (Bound (Item R))) → BoundsFine a name bs → bounds_seen b name bs ≡ bounds_seen a name bs
  bounds_still bs h = map_same bound_still bs h

  pub bounds_fine_still : (bs : List (Bound (Item R))) → BoundsFine a name bs → BoundsFine b name bs
  bounds_fine_still bs h = every_map (λ e k. fine_still a b name g e.value k) bs h

  frame_still : (f : BlockFrame (Item R)) → BoundsFine a name f.bound → frame_seen b name f ≡ frame_seen a name f
  frame_still f h = cc (bounds_still f.bound h)

  pub bindings_still : (bs : Bindings (Item R)) → BindingsFine a name bs → bindings_seen b name bs ≡ bindings_seen a name bs
  bindings_still bs h = cc (map_same frame_still bs.blocks h.blocks, bounds_still bs.top h.top)

  pub bindings_fine_still : (bs : Bindings (Item R)) → BindingsFine a name bs → BindingsFine b name bs
  bindings_fine_still bs h = record {
    blocks = every_map (λ f k. bounds_fine_still f.bound k) bs.blocks h.blocks;
    top = bounds_fine_still bs.top h.top;
  }

  pub context_fine_still : (c : Context R) → ContextFine a name c → ContextFine b name c
  context_fine_still c h = record {
    literals = every_map (λ r k. known_still g (name r) k) c.literals.items h.literals;
    bindings = bindings_fine_still (bindings_of c.scope) h.bindings;
  }

  pub context_bindings_still : (c : Context R) → ContextFine a name c → context_bindings b name c ≡ context_bindings a name c
  context_bindings_still c h = bindings_still (bindings_of c.scope) h.bindings

  pub scope_still : (c : Context R) → ContextFine a name c → scope_of b name c ≡ scope_of a name c
  scope_still c h = cc (map_same (λ r k. text_still g (name r) k) c.literals.items h.literals, context_bindings_still c h, g.limit)
