use Rattle.heap_export.proofs.SmallUnits.{all_small, before_other}
use Rattle.heap_export.proofs.runs.small_front.Goals as goal

pub returns-then-others-eq0-clause-small : goal.returns-then-others-eq0-clause-small
returns-then-others-eq0-clause-small c = all_small c.args.most c.args.units.now c.told-units c.if-others-eq0.true

pub returns-clause-small : goal.returns-clause-small
returns-clause-small c = before_other c.args.most c.args.units.now c.told-units c.if-others-eq0.false
