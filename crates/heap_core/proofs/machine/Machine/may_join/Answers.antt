use Rattle.std.proofs.Common.{refl}
use Rattle.heap_core.proofs.StateLemmas.{join_tells, join_not, join_not_other}
use Rattle.heap_core.proofs.machine.Machine.may_join.Goals as goal

pub returns-in-Some-live : goal.returns-in-Some-live
returns-in-Some-live c = join_tells c.args.self.now.views.items c.args.view c.args.other c.in-Some.v.now c.in-Some-live.b.now
    c.may_join.result c.if-view-other.false c.in-Some.ensures.some c.in-Some-live.ensures.some c.may_join.ensures

pub returns-in-None-live : goal.returns-in-None-live
returns-in-None-live c = join_not_other c.args.self.now.views.items c.args.view c.args.other (c.in-None-live.ensures.none refl)

pub returns-in-None : goal.returns-in-None
returns-in-None c = join_not c.args.self.now.views.items c.args.view c.args.other (c.in-None.ensures.none refl)
