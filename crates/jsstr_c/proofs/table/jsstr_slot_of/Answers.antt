use Rattle.std.proofs.Common.{◌∙◌, ℕ, List, Option, subst, sym}
use Rattle.std.specs.List.{Contains}
use Rattle.heap_rule.specs.Maps.{HasKey}
use Rattle.heap_rule.specs.Views.{history}
use Rattle.heap_agents.specs.declared.held.Held.{Held}
use Rattle.heap_agents.specs.Ready.{handle_view}
use Rattle.jsstr_c.proofs.Same.{called}
use Rattle.jsstr_c.proofs.Slots.{known_after}
use Rattle.jsstr_c.proofs.table.jsstr_slot_of.Goals as goal

pub slot_of-value-requires-clause-known : goal.slot_of-value-requires-clause-known
slot_of-value-requires-clause-known c = let e = c.has_interned.ensures in
    subst (λ (o : Option Held). HasKey (handle_view o).units c.args.s) c.held.ensures.value
    (known_after c.args.agent.now.at.value c.has_interned.new.self.at.value c.args.agent.now.live c.requires c.args.s (e.interned.0 c.if-not-has_interned.false) e.same)

pub slot_of-value-requires-clause-call : goal.slot_of-value-requires-clause-call
slot_of-value-requires-clause-call c = let e = c.has_interned.ensures in
    subst (λ (o : Option Held). (u : List ℕ) × Contains (history (handle_view o)) (u, c.args.s)) (sym e.same ∙ c.held.ensures.value)
    (called c.args.agent.now.at.value c.args.agent.now.live c.requires c.args.s (e.interned.0 c.if-not-has_interned.false)).1
