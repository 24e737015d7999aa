-- What the scope of the code denotes in a store, and when it may be used.
use Rattle.std.specs.Prelude.{ℕ, List, map}
use Rattle.js_store.specs.State.{State}
use Rattle.js_texts.specs.Texts.{Every, AllKnown, known_texts as texts_seen}
use Rattle.eval_scopes.specs.Bindings.{Bound, BlockFrame, Bindings}
use Rattle.eval_scopes.specs.Seen.{bindings_of}
use Rattle.js_item.specs.declared.item.Item.{Item}
use Rattle.js_item.specs.Seen.{Val, seen}
use Rattle.js_item.specs.Fine.{IsFine}
use Rattle.js_eval.specs.declared.context.Context.{Context}
use Rattle.js_eval.specs.Expression.{EvalContext}

abbrev pub bound_seen : {F R : Type 0} → State F → (R → ℕ) → Bound (Item R) → Bound Val
bound_seen s name b = record { name = b.name; constant = b.constant; value = seen s name b.value }

abbrev pub bounds_seen : {F R : Type 0} → State F → (R → ℕ) → List (Bound (Item R)) → List (Bound Val)
bounds_seen s name bs = map (λ b. bound_seen s name b) bs

abbrev pub frame_seen : {F R : Type 0} → State F → (R → ℕ) → BlockFrame (Item R) → BlockFrame Val
frame_seen s name f = record { names = f.names; bound = bounds_seen s name f.bound }

abbrev pub bindings_seen : {F R : Type 0} → State F → (R → ℕ) → Bindings (Item R) → Bindings Val
bindings_seen s name bs =
    record { blocks = map (λ f. frame_seen s name f) bs.blocks; top = bounds_seen s name bs.top }

abbrev pub BoundsFine : {F R : Type 0} → State F → (R → ℕ) → List (Bound (Item R)) → Type 0
BoundsFine s name bs = Every (λ b. IsFine s name b.value) bs

pub record BindingsFine {F R : Type 0} (s : State F) (name : R → ℕ) (bs : Bindings (Item R)) : Type 0 where
  pub blocks : Every (λ f. BoundsFine s name f.bound) bs.blocks
  pub top : BoundsFine s name bs.top

pub record ContextFine {F R : Type 0} (s : State F) (name : R → ℕ) (c : Context R) : Type 0 where
  pub literals : AllKnown s name c.literals.items
  pub bindings : BindingsFine s name (bindings_of c.scope)

abbrev pub context_bindings : {F R : Type 0} → State F → (R → ℕ) → Context R → Bindings Val
context_bindings s name c = bindings_seen s name (bindings_of c.scope)

abbrev pub scope_of : {F R : Type 0} → State F → (R → ℕ) → Context R → EvalContext
scope_of s name c = record {
  literals = texts_seen s name c.literals.items;
  bindings = context_bindings s name c;
  limit = s.limit;
}
