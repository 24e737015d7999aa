use Rattle.std.proofs.Common.{refl}
use Rattle.heap_rule.specs.declared.view.View.{View}
use Rattle.heap_rule.specs.Births.{MayBear}
use Rattle.heap_core.specs.Core.{core_of}
use Rattle.heap_core.proofs.StateLemmas.{live_tells, none_tells, own_lengths}
use Rattle.heap_core.proofs.SlotEvents.{has_shorts}
use Rattle.heap_core.proofs.machine.Machine.may_bear.Goals as goal

pub may_bear-requires-clause-shorts : goal.may_bear-requires-clause-shorts
may_bear-requires-clause-shorts c = has_shorts (core_of c.args.self.now) c.requires c.args.view c.in-Some.v.now c.in-Some.ensures.some

pub may_bear-requires-clause-own : goal.may_bear-requires-clause-own
may_bear-requires-clause-own c = own_lengths (core_of c.args.self.now) c.args.id c.requires c.args.view c.in-Some.v.now c.in-Some.ensures.some.0 c.in-Some.ensures.some.1

pub returns-in-Some : goal.returns-in-Some
returns-in-Some c = live_tells c.args.self.now.views.items c.args.view (λ (v : View). MayBear v c.args.id c.args.form) c.in-Some.v.now c.may_bear.result c.in-Some.ensures.some c.may_bear.ensures

pub returns-in-None : goal.returns-in-None
returns-in-None c = none_tells c.args.self.now.views.items c.args.view (λ (v : View). MayBear v c.args.id c.args.form) (c.in-None.ensures.none refl)
