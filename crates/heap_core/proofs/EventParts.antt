-- An event's view and names, read beside its kind.
use Rattle.std.proofs.Common.{◌≡◌, ◌∙◌, ℕ, List, ap, sym, subst}
use Rattle.heap_core.specs.declared.event.Event.{Event}
use Rattle.heap_core.specs.Steps.{agent_of, learned_ids}

-- what holds of the view and the names that were read, holds of those of the event's kind
pub to_event : {e f : Event} (j : ℕ) (ns : List ℕ) (Q : ℕ → List ℕ → Type 0) → e ≡ f → j ≡ agent_of e → ns ≡ learned_ids e → Q j ns → Q (agent_of f) (learned_ids f)
to_event j ns Q is view learn h = subst (λ (p : ℕ × List ℕ). Q p.0 p.1) (λ k. ((view ∙ ap agent_of is) k, (learn ∙ ap learned_ids is) k)) h

pub from_event : {e f : Event} (j : ℕ) (ns : List ℕ) (Q : ℕ → List ℕ → Type 0) → e ≡ f → j ≡ agent_of e → ns ≡ learned_ids e → Q (agent_of f) (learned_ids f) → Q j ns
from_event j ns Q is view learn h = subst (λ (p : ℕ × List ℕ). Q p.0 p.1) (λ k. (sym (view ∙ ap agent_of is) k, sym (learn ∙ ap learned_ids is) k)) h
