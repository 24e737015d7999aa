use Rattle.std.proofs.Common.{Option, ◌+◌, subst}
use Rattle.heap_agents.specs.declared.held.Held.{Held}
use Rattle.c_steps.specs.Checked.{ReadsLength, ReachesLength}
use Rattle.c_steps.proofs.Stages.{pair_before}
use Rattle.c_steps.proofs.settling.settle_both_reaching.Goals as goal

pub returns-clause-settles : goal.returns-clause-settles
returns-clause-settles c = let one = c.reaches in let both = c.settle_both in let same = c.knows.ensures.same in let t = c.if-not-reaches.false in let m = one.new.agent.at.value in
    let r = subst (λ (x : Option Held). ReachesLength x c.args.a (c.args.from + 0)) same (one.ensures.reaches.0 t) in
    pair_before c.args.agent.now.at.value m both.new.agent.at.value c.args.a c.args.b both.result (subst (λ (x : Option Held). ReadsLength x m) same (one.ensures.measures t)) r.0
    (c.knows.ensures.known.0 c.if-not-knows.false) both.ensures.settles
