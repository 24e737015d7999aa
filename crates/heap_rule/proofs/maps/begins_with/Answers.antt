use Rattle.std.proofs.Common.{◌≡◌, ◌∙◌, false, true, refl, sym, arith}
use Rattle.heap_rule.proofs.ListLemmas.{any_default}
use Rattle.heap_rule.proofs.CallLists.{same_next, other_next, at_end}
use Rattle.heap_rule.proofs.maps.begins_with.Goals as goal

pub returns-then-not-is_same_call : goal.returns-then-not-is_same_call
returns-then-not-is_same_call c = (
  (λ (e : false ≡ true). absurd (cc)),
  (λ h. absurd (other_next c.args.calls.now c.args.front.now c.calls.i c.index-calls-i.result (omega arith) (omega arith)
      (λ e. let q : false ≡ true = c.if-not-is_same_call.ensures.1 (c.index-calls-i.is ∙
      (e ∙ (any_default c.args.front.now c.calls.i c.index-calls-i.result c.index-front-i.result (omega arith) ∙ sym c.index-front-i.is))) in
      absurd (cc)) c.calls.invariant h)),
)

pub calls-preserved : goal.calls-preserved
calls-preserved c = same_next c.args.calls.now c.args.front.now c.calls.i c.index-calls-i.result (omega arith) (omega arith)
    (sym c.index-calls-i.is ∙ (c.if-not-is_same_call.ensures.0 refl ∙ (c.index-front-i.is ∙ any_default c.args.front.now c.calls.i
    c.index-front-i.result c.index-calls-i.result (omega arith)))) c.calls.invariant

pub returns : goal.returns
returns c = at_end c.args.calls.now c.args.front.now c.calls.i (omega arith) c.calls.invariant
