use Rattle.std.proofs.Common.{Option, Some, ap, subst, sym, ◌∙◌}
use Rattle.heap_reserve.specs.declared.reserve.Reserve.{Reserve}
use Rattle.heap_reserve.specs.Reserves.{IsReserve}
use Rattle.heap_agents.specs.declared.held.Held.{Held}
use Rattle.heap_agents.specs.Held.{IsHeld}
use Rattle.heap_agents.specs.Shared.{SharedText}
use Rattle.heap_agents.proofs.Marks.{left_held, right_held}
use Rattle.heap_agents.proofs.held.Held.split.Goals as goal

pub returns-clause-held : goal.returns-clause-held
returns-clause-held c = let s = c.in_ok-split_text.ensures in left_held c.args.self.now c.split_text.new.text c.args.give c.requires.held s.there s.same s.left

pub returns-clause-other : goal.returns-clause-other
returns-clause-other c = let s = c.in_ok-split_text.ensures in let b = c.in_ok-other.ensures in
    right_held c.args.self.now (Some c.in_ok-split_text.field-0) c.args.give c.requires.held tt s.other s.right c.in_ok-other.other.value _
    b.known b.interned b.room b.calls_room (ap (λ (h : Held). h.text) c.deref_mut-2.ensures.value)
    (ap (λ (h : Held). h.agents) c.deref_mut-2.ensures.value ∙ (ap (λ (h : Held). h.agents) c.deref_mut.ensures.value ∙ b.agents))
    (ap (λ (h : Held). h.known) c.deref_mut-2.ensures.value ∙ ap (λ (h : Held). h.known) c.deref_mut.ensures.value)
    (ap (λ (h : Held). h.interned) c.deref_mut-2.ensures.value ∙ ap (λ (h : Held). h.interned) c.deref_mut.ensures.value)
    (ap (λ (h : Held). h.seats.slots.items) c.deref_mut-2.ensures.value ∙ (ap (λ (h : Held). h.seats.slots.items) c.deref_mut.ensures.value ∙ b.seats))
    (ap (λ (h : Held). h.seats.hashes.items) c.deref_mut-2.ensures.value ∙ (ap (λ (h : Held). h.seats.hashes.items) c.deref_mut.ensures.value ∙ b.hashes))
    (ap (λ (h : Held). h.seats.keys.items) c.deref_mut-2.ensures.value ∙ (ap (λ (h : Held). h.seats.keys.items) c.deref_mut.ensures.value ∙ b.keys))
    (λ v. subst (λ (r : Reserve). IsReserve v r) (sym (ap (λ (h : Held). h.reserve) c.deref_mut-2.ensures.value ∙ ap (λ (h : Held). h.reserve) c.deref_mut.ensures.value)) (b.reserve v))

pub returns-in_err-split_text-clause-held : goal.returns-in_err-split_text-clause-held
returns-in_err-split_text-clause-held c = subst (λ (o : Option SharedText). IsHeld (record (c.args.self.now) { text = o })) (sym c.in_err-split_text.ensures.refused) c.requires.held
