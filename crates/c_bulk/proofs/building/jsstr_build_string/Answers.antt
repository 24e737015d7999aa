use Rattle.std.proofs.Common.{refl, arith}
use Rattle.c_steps.proofs.Stages.{goes_on, stops}
use Rattle.c_bulk.proofs.building.jsstr_build_string.Goals as goal

pub returns-then-settled-ne-DONE-clause-builds : goal.returns-then-settled-ne-DONE-clause-builds
returns-then-settled-ne-DONE-clause-builds c = let first = c.settle_known-settled in
    stops c.args.agent.now.at.value first.new.agent.at.value c.args.s first.result first.ensures.settles _ _ _ refl c.if-settled-ne-DONE.true refl

pub returns-clause-builds : goal.returns-clause-builds
returns-clause-builds c = let first = c.settle_known-settled in let two = c.add_settled in let n = c.if-settled-ne-DONE.false in
    goes_on c.args.agent.now.at.value first.new.agent.at.value c.args.s first.result first.ensures.settles two.new.agent.at.value _ _ _
    (omega (arith, n)) two.ensures.looks two.ensures.told two.ensures.words two.ensures.builds
