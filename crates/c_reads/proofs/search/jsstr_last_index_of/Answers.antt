use Rattle.std.proofs.Common.{◌∙◌, ap, sym, arith}
use Rattle.c_steps.specs.declared.answer.JsPlace.{JsPlace}
use Rattle.c_steps.specs.Reports.{no_place}
use Rattle.c_steps.proofs.Stages.{seeks_on, stops_both}
use Rattle.c_reads.proofs.search.jsstr_last_index_of.Goals as goal

pub returns-then-status-ne-DONE-clause-seeks : goal.returns-then-status-ne-DONE-clause-seeks
returns-then-status-ne-DONE-clause-seeks c = let both = c.settle_both-status in let is = c.without_place.ensures in let e = ap (λ (x : JsPlace). x.status) is in
    stops_both c.args.agent.now.at.value both.new.agent.at.value c.args.hay c.args.needle both.result both.ensures.settles _ _ _ e c.if-status-ne-DONE.true (is ∙ ap no_place (sym e))

pub returns-clause-seeks : goal.returns-clause-seeks
returns-clause-seeks c = let both = c.settle_both-status in let two = c.last_in in let n = c.if-status-ne-DONE.false in
    seeks_on c.args.agent.now.at.value both.new.agent.at.value c.args.hay c.args.needle both.result both.ensures.settles two.new.agent.at.value _ _ _ (omega (arith, n)) two.ensures.searches
    (two.ensures.told) (two.ensures.words)
    (λ us vs h k. (two.ensures.place us vs h k, two.ensures.greatest us vs h k))
