use Rattle.std.proofs.Common.{◌≡◌, ◌∙◌, true, false, sym, arith}
use Rattle.heap_core_views.proofs.Turning.{in_run, not_in_run}
use Rattle.heap_core_views.proofs.load.is_frozen_by.Goals.{else-start-at-via-then-start-at+then-at-start+else-contains_key}
use Rattle.heap_core_views.proofs.load.is_frozen_by.Goals.{else-start-at-via-then-start-at+else-at-start, else-start-at-via-else-start-at}
use Rattle.heap_core_views.proofs.load.is_frozen_by.Goals as goal

pub returns-then-contains_key : goal.returns-then-contains_key
returns-then-contains_key c = in_run c.args.view.now.own_words c.args.view.now.frozen c.args.start c.args.count c.args.at c.if-start-at.true
    c.if-at-start.true (sym c.contains_key.ensures ∙ c.if-contains_key.true)

pub returns : goal.returns
returns c = c.contains_key-2.ensures ∙ not_in_run c.args.view.now.own_words c.args.view.now.frozen c.args.start c.args.count c.args.at (λ lo hi k. elim c.else-start-at.branch [
  | else-start-at-via-then-start-at+then-at-start+else-contains_key w ↦ (let e : false ≡ true = sym w.if-contains_key.false ∙ (w.contains_key.ensures ∙ k) in absurd (cc))
  | else-start-at-via-then-start-at+else-at-start w ↦ (let l = w.if-at-start.false in absurd (omega arith))
  | else-start-at-via-else-start-at w ↦ (let l = w.if-start-at.false in absurd (omega arith))
])
