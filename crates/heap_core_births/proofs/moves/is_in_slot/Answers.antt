use Rattle.std.proofs.Common.{◌≡◌, ◌∙◌, ℕ, true, false, refl, ap, Some, rules}
use Rattle.std.proofs.lemmas.Map.Iter.{rest_more, rest_all}
use Rattle.std.specs.Map.Iter.{deref_pair}
use Rattle.heap_core_views.proofs.Searches.{search_start, search_next, search_none, head_found}
use Rattle.heap_core_births.proofs.moves.is_in_slot.Goals as goal

pub loop-slot-init : goal.loop-slot-init
loop-slot-init c = search_start (λ _ (x : ℕ). x ≡ c.args.id) c.args.view.now.slots c.into_iter-slot-iterator.result (search rules) c.iter-slot-items.ensures.found

pub loop-slot-preserved : goal.loop-slot-preserved
loop-slot-preserved c = search_next (λ _ (x : ℕ). x ≡ c.args.id) c.args.view.now.slots c.loop-slot._slot-iterator c.next.new.self
    c.in-Some._slot.now c.in-Some.seen.now (rest_more deref_pair c.loop-slot._slot-iterator c.next.new.self c.next.result
    (c.in-Some._slot, c.in-Some.seen) c.in-Some.is c.next.ensures.steps) (λ p. absurd (c.if-seen-id.false p)) c.loop-slot.invariant

pub returns-then-seen-id : goal.returns-then-seen-id
returns-then-seen-id c = (
  (λ _. (
    c.in-Some._slot.now,
    head_found (λ _ (x : ℕ). x ≡ c.args.id) c.args.view.now.slots
        c.loop-slot._slot-iterator c.next.new.self c.in-Some._slot.now c.in-Some.seen.now
        (rest_more deref_pair c.loop-slot._slot-iterator c.next.new.self c.next.result (c.in-Some._slot, c.in-Some.seen) c.in-Some.is
        c.next.ensures.steps) c.loop-slot.invariant.1 ∙ ap Some c.if-seen-id.true,
  )),
  (λ _. refl),
)

pub returns : goal.returns
returns c = (
  (λ (e : false ≡ true). absurd (cc)),
  (λ t. absurd (search_none (λ _ (x : ℕ). x ≡ c.args.id) c.args.view.now.slots
      c.loop-slot._slot-iterator (rest_all deref_pair c.loop-slot._slot-iterator c.next.new.self c.next.result c.in-None.is
      c.next.ensures.steps) c.loop-slot.invariant t.0 c.args.id t.1 refl)),
)
