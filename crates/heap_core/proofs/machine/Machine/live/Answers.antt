use Rattle.std.proofs.Common.{◌≤◌, List, length, subst}
use Rattle.heap_rule.specs.declared.view.View.{View}
use Rattle.heap_rule.specs.Sound.{At}
use Rattle.heap_core.proofs.StateLemmas.{at_here, not_live, no_view}
use Rattle.heap_core.proofs.machine.Machine.live.Goals as goal

pub returns-then-v-clause-some : goal.returns-then-v-clause-some
returns-then-v-clause-some c = let h = c.in-Some.ensures.lookup in
    (subst (λ (l : List View). At l c.args.view c.in-Some.v.now) c.deref.ensures.value (at_here c.deref.result.now c.args.view c.in-Some.v.now h.3.0 h.1), c.if-v.true)

pub returns-else-v-clause-none : goal.returns-else-v-clause-none
returns-else-v-clause-none c = let h = c.in-Some.ensures.lookup in
    λ _. not_live c.args.self.now.views.items c.args.view c.in-Some.v.now
    (subst (λ (l : List View). At l c.args.view c.in-Some.v.now) c.deref.ensures.value
    (at_here c.deref.result.now c.args.view c.in-Some.v.now h.3.0 h.1)) c.if-v.false

pub returns-in-None-clause-none : goal.returns-in-None-clause-none
returns-in-None-clause-none c = λ _. no_view c.args.self.now.views.items c.args.view (subst (λ (l : List View). length l ≤ c.args.view) c.deref.ensures.value c.in-None.ensures.lookup.3)
