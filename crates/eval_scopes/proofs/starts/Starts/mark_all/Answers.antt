use Rattle.std.proofs.Common.{arith}
use Rattle.eval_scopes.proofs.Walks.{reaches_next}
use Rattle.eval_scopes.proofs.starts.Starts.mark_all.Goals as goal

pub loop-name-preserved : goal.loop-name-preserved
loop-name-preserved c =
    reaches_next c.args.self.now.counts c.loop-name.self.counts c.mark.new.self.counts c.args.names.now c.args.frames c.loop-name.name-index c.key.result c.name-item.result
    (omega (arith, c.loop-name-test.true)) c.name-item.is c.key.ensures c.mark.ensures.marked c.mark.ensures.kept c.loop-name.invariant
