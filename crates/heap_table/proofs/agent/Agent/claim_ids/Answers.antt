use Rattle.std.proofs.Common.{◌≤◌, Bool, cond, eq-eqb, ap, sym, ◌∙◌, arith}
use Rattle.heap_rule.specs.declared.view.View.{View}
use Rattle.heap_rule.specs.declared.size.Counter.TheVariants.{Ids}
use Rattle.heap_rule.specs.Claims.{loaded_counter, claimed, won_claim}
use Rattle.heap_rule.proofs.InTurn.{views_all}
use Rattle.heap_table.specs.Agents.{view_of}
use Rattle.heap_table.proofs.agent.Agent.claim_ids.Goals as goal

pub returns-then-found-at-clause-in_turn : goal.returns-then-found-at-clause-in_turn
returns-then-found-at-clause-in_turn c = let at = c.tries.at in let n = c.min-count.result in let found = c.try_claim-found.result in
    let m : View = loaded_counter (view_of c.args.self.now) Ids at in
    let least = c.min-count.ensures in let left = c.if-end-at.false in let most = c.requires.some in
    let some : 1 ≤ n = omega (arith, least, left, most) in
    c.try_claim-found.ensures.view ∙ (ap (λ (v : View). claimed v Ids at n found) c.tries.invariant.0
    ∙ (ap (λ (b : Bool). cond b (won_claim m Ids at n) (loaded_counter m Ids found)) (eq-eqb found at c.if-found-at.true)
    ∙ sym (views_all m at n some)))
