use Rattle.std.proofs.Common.{refl}
use Rattle.heap_rule.specs.declared.view.View.{View}
use Rattle.heap_rule.specs.Maps.{HasKey}
use Rattle.heap_core.proofs.StateLemmas.{live_tells, none_tells}
use Rattle.heap_core.proofs.machine.Machine.may_store_word.Goals as goal

pub returns-in-Some : goal.returns-in-Some
returns-in-Some c = live_tells c.args.self.now.views.items c.args.view (λ (v : View). HasKey v.own_words c.args.at) c.in-Some.v.now
    c.may_store_word.result c.in-Some.ensures.some c.may_store_word.ensures

pub returns-in-None : goal.returns-in-None
returns-in-None c = none_tells c.args.self.now.views.items c.args.view (λ (v : View). HasKey v.own_words c.args.at) (c.in-None.ensures.none refl)
