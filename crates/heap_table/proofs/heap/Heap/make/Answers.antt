use Rattle.std.proofs.Common.{rules, ◌≡◌, ℕ, List, subst, sym, ap, refl, ◌∙◌, ◌∷◌, []}
use Rattle.std.specs.Prelude.{replicate}
use Rattle.heap_rule.specs.Agents.{first_view}
use Rattle.heap_rule.specs.Layout.{word_count}
use Rattle.heap_rule.specs.Sound.{IsSound, IsPossible}
use Rattle.heap_rule.specs.declared.view.View.{View}
use Rattle.heap_table.specs.Plays.{AgentSeat}
use Rattle.heap_rule.proofs.Making.{keeps_making}
use Rattle.heap_table.specs.MayMake.{MayMake}
use Rattle.heap_table.specs.Rule.{AreSeenAlike}
use Rattle.heap_table.proofs.Alike.{alike_first}
use Rattle.heap_table.proofs.heap.Heap.make.Goals as goal

pub returns-in-Ok-of_words-clause-belongs : goal.returns-in-Ok-of_words-clause-belongs
returns-in-Ok-of_words-clause-belongs c = let z = c.args.size in let may : MayMake z c.args.agents = c.may_make.ensures.0 (search rules) in let e = c.in-Ok-of_words.ensures in let m = e.4 in
    let first : View = first_view z c.args.agents in let W : List ℕ = replicate (word_count z) 0 in
    let kept : IsPossible first = ∣ (z, c.args.agents, W, first ∷ [], 0, keeps_making z c.args.agents may.0 may.1, refl, refl) ∣₁ in (
      e.2,
      ap (λ (q : AgentSeat). q.0.sizes) m,
      ap (λ (q : AgentSeat). q.0.live) m,
      ap (λ (q : AgentSeat). q.1) m,
      ap (λ (q : AgentSeat). q.0.share) m,
      subst (λ (q : AgentSeat). IsPossible q.0) (sym m) kept,
    )

pub of_words-requires : goal.of_words-requires
of_words-requires c = let z = c.args.size in let may : MayMake z c.args.agents = c.may_make.ensures.0 (search rules) in
    let zeros : c.as_slice.result.now ≡ replicate (word_count z) 0 = c.as_slice.ensures.value ∙
    (c.in-Ok.ensures.items_if_clones_equal (λ y e. e) ∙ ap (λ (n : ℕ). replicate n 0) c.word_count.ensures) in
    subst (λ (ws : List ℕ). IsSound z c.args.agents ws (first_view z c.args.agents ∷ []) × AreSeenAlike (first_view z c.args.agents ∷ [])) (sym zeros)
    (keeps_making z c.args.agents may.0 may.1, alike_first (first_view z c.args.agents) refl)
