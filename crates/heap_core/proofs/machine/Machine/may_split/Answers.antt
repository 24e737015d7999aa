use Rattle.std.proofs.Common.{◌<◌, ◌≤◌, refl}
use Rattle.heap_rule.specs.declared.view.View.{View}
use Rattle.heap_core.proofs.StateLemmas.{live_tells, none_tells}
use Rattle.heap_core.proofs.machine.Machine.may_split.Goals as goal

pub returns-in-Some : goal.returns-in-Some
returns-in-Some c = live_tells c.args.self.now.views.items c.args.view (λ (v : View). (1 ≤ c.args.give) × (c.args.give < v.share))
    c.in-Some.v.now c.may_split.result c.in-Some.ensures.some c.may_split.ensures

pub returns-in-None : goal.returns-in-None
returns-in-None c = none_tells c.args.self.now.views.items c.args.view (λ (v : View). (1 ≤ c.args.give) × (c.args.give < v.share)) (c.in-None.ensures.none refl)
