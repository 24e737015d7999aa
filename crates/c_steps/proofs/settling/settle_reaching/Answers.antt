use Rattle.std.proofs.Common.{inr}
use Rattle.c_steps.proofs.Stages.{then_settled}
use Rattle.c_steps.proofs.settling.settle_reaching.Goals as goal

pub returns-clause-settles : goal.returns-clause-settles
returns-clause-settles c = let one = c.reaches in let two = c.settle in let t = c.if-not-reaches.false in
    then_settled c.args.agent.now.at.value one.new.agent.at.value two.new.agent.at.value c.args.s two.result (inr (one.ensures.measures t))
    (one.ensures.reaches.0 t).0 two.ensures.settles.told two.ensures.settles.done two.ensures.settles.refused
