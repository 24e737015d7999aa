use Rattle.std.proofs.Common.{◌≡◌, ◌∙◌, Option, subst, sym, arith}
use Rattle.heap_rule.specs.Maps.{HasKey}
use Rattle.heap_agents.specs.declared.held.Held.{Held}
use Rattle.heap_agents.specs.Ready.{HandleKnows, handle_view}
use Rattle.c_steps.specs.Checked.{RefusesSettling, SettlesString}
use Rattle.c_steps.proofs.Going.{goes_continues, goes_key}
use Rattle.c_steps.proofs.Stages.{left_refused, right_ends}
use Rattle.c_steps.proofs.settling.settle_both.Goals as goal

pub returns-then-left-ne-DONE-clause-settles : goal.returns-then-left-ne-DONE-clause-settles
returns-then-left-ne-DONE-clause-settles c = let left = c.settle-left in let second = c.knows-else-not-knows in let m = left.new.agent.at.value in
    let kb = subst (λ (x : Option Held). HandleKnows x c.args.b) c.knows.ensures.same (second.ensures.known.0 c.if-not-knows-2.false) in
    left_refused c.args.agent.now.at.value m c.args.a c.args.b left.result (c.knows.ensures.known.0 c.if-not-knows.false) kb
    (subst (λ (x : Option Held). RefusesSettling x m c.args.a left.result) (second.ensures.same ∙ c.knows.ensures.same) (left.ensures.settles.refused c.if-left-ne-DONE.true))

pub returns-clause-settles : goal.returns-clause-settles
returns-clause-settles c = let left = c.settle-left in let right = c.settle in let second = c.knows-else-not-knows in let m = left.new.agent.at.value in
    let n = c.if-left-ne-DONE.false in let one : left.result.status ≡ 0 = omega (arith, n) in
    let kb = subst (λ (x : Option Held). HandleKnows x c.args.b) c.knows.ensures.same (second.ensures.known.0 c.if-not-knows-2.false) in
    right_ends c.args.agent.now.at.value m right.new.agent.at.value c.args.a c.args.b right.result (c.knows.ensures.known.0 c.if-not-knows.false) kb
    (subst (λ (x : Option Held). SettlesString x m c.args.a) (second.ensures.same ∙ c.knows.ensures.same) (left.ensures.settles.done one).1)
    right.ensures.settles.told (λ e. (right.ensures.settles.done e).1) right.ensures.settles.refused

pub returns-clause-left : goal.returns-clause-left
returns-clause-left c = λ done. let left = c.settle-left in let right = c.settle in let second = c.knows-else-not-knows in let n = c.if-left-ne-DONE.false in
    let m = left.new.agent.at.value in let p = right.new.agent.at.value in let one : left.result.status ≡ 0 = omega (arith, n) in
    let first = (left.ensures.settles.done one).1 in let after = (right.ensures.settles.done done).1 in
    let key = subst (λ (x : Option Held). HasKey (handle_view x).units c.args.a) (sym second.ensures.same) (c.knows.ensures.key c.if-not-knows.false) in (
      goes_key m p after.leaves c.args.a (goes_key second.new.self.at.value m first.leaves c.args.a key),
      (goes_continues m p after.leaves).known.settled c.args.a first.settled,
    )
