use Rattle.std.proofs.Common.{◌≡◌, ◌∙◌, ap, sym, arith}
use Rattle.heap_rule.proofs.MapLemmas.{has_key}
use Rattle.heap_agents.specs.Ready.{handle_view}
use Rattle.c_steps.specs.declared.answer.JsPlace.{JsPlace}
use Rattle.c_steps.specs.Reports.{no_place}
use Rattle.c_steps.proofs.Stages.{seeks_on, stops_both}
use Rattle.c_reads.proofs.search.jsstr_index_of.Goals as goal

pub returns-then-status-ne-DONE-clause-seeks : goal.returns-then-status-ne-DONE-clause-seeks
returns-then-status-ne-DONE-clause-seeks c = let both = c.settle_both_reaching-status in let is = c.without_place.ensures in let e = ap (λ (x : JsPlace). x.status) is in
    stops_both c.args.agent.now.at.value both.new.agent.at.value c.args.hay c.args.needle both.result both.ensures.settles _ _ _ e c.if-status-ne-DONE.true (is ∙ ap no_place (sym e))

pub returns-clause-seeks : goal.returns-clause-seeks
returns-clause-seeks c = let both = c.settle_both_reaching-status in let two = c.first_in in let n = c.if-status-ne-DONE.false in
    seeks_on c.args.agent.now.at.value both.new.agent.at.value c.args.hay c.args.needle both.result both.ensures.settles two.new.agent.at.value _ _ _ (omega (arith, n)) two.ensures.searches
    (two.ensures.told) (two.ensures.words)
    (λ us vs h k. (two.ensures.place us vs h k, two.ensures.least us vs h k))

pub first_in-requires-clause-within : goal.first_in-requires-clause-within
first_in-requires-clause-within c = let both = c.settle_both_reaching-status.ensures in let done : c.settle_both_reaching-status.result ≡ 0 = omega (arith, c.if-status-ne-DONE.false) in
    let left = has_key (handle_view c.settle_both_reaching-status.new.agent.at.value).units c.args.hay (both.left done).0 in (left.0, left.1, both.long done left.0 left.1)
