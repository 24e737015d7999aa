use Rattle.std.proofs.Common.{arith, ◌∙◌}
use Rattle.js_store.proofs.Laws.{step_trans, text_still}
use Rattle.js_search.proofs.Pairing.{same_more}
use Rattle.js_search.proofs.runs.same_behind.Goals as goal

pub returns-then-same-count-clause-same : goal.returns-then-same-count-clause-same
returns-then-same-count-clause-same g c =
    let s = c.loop-done.invariant in
    same_more _ _ _ _ c.args.place c.args.from c.loop-done.done c.same_run-same.result (text_still s.step.grows _ c.requires.hay_known)
    (text_still s.step.grows _ c.requires.needle_known) s.same c.same_run-same.ensures.same

pub loop-done-preserved : goal.loop-done-preserved
loop-done-preserved g c =
    let s = c.loop-done.invariant in
    let e = c.same_run-same.ensures in
    let low = s.low in
    let m = c.min-count.ensures in
    let all = c.if-same-count.false in
    record {
      low = omega arith;
      high = omega arith;
      some = omega arith;
      most = omega arith;
      same = same_more _ _ _ _ c.args.place c.args.from c.loop-done.done c.min-count.result (text_still s.step.grows _ c.requires.hay_known)
          (text_still s.step.grows _ c.requires.needle_known) s.same (λ k l. e.same k (omega arith));
      step = step_trans s.step e.uses.step;
      history = e.uses.history ∙ s.history;
    }
