use Rattle.std.proofs.Common.{refl}
use Rattle.heap_rule.specs.declared.view.View.{View}
use Rattle.heap_rule.specs.Births.{MayStoreLength}
use Rattle.heap_core.proofs.StateLemmas.{live_tells, none_tells}
use Rattle.heap_core.proofs.machine.Machine.may_store_length.Goals as goal

pub returns-in-Some : goal.returns-in-Some
returns-in-Some c = live_tells c.args.self.now.views.items c.args.view (λ (v : View). MayStoreLength v c.args.id c.args.length)
    c.in-Some.v.now c.may_store_length.result c.in-Some.ensures.some c.may_store_length.ensures

pub returns-in-None : goal.returns-in-None
returns-in-None c = none_tells c.args.self.now.views.items c.args.view (λ (v : View). MayStoreLength v c.args.id c.args.length) (c.in-None.ensures.none refl)
