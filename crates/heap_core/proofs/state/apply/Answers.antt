use Rattle.std.proofs.Common.{◌≡◌, subst, Err}
use Rattle.std.specs.Prelude.{IfOk, OnErr}
use Rattle.heap_core.specs.declared.event.Refusal.TheVariants.{NotEnabled}
use Rattle.heap_core.specs.Core.{Core, core_of}
use Rattle.heap_core.specs.Events.{Enabled, after, found, KeepsUnits}
use Rattle.heap_core.proofs.Kept.{applied_core, applied_enabled, applied_after, applied_found, applied_not, applied_same, applied_sound, applied_units, applied_born}
use Rattle.heap_core.proofs.state.apply.Goals as goal

pub invariant_of-state : goal.invariant_of-state
invariant_of-state c = let s : Core = core_of c.state.inside.machine in let t : Core = core_of c.apply.new.self in
    applied_core s c.args.event.now t c.apply.result c.state.invariant c.apply.ensures

pub returns-clause-sound : goal.returns-clause-sound
returns-clause-sound c = let s : Core = core_of c.state.inside.machine in let t : Core = core_of c.apply.new.self in
    applied_sound s c.args.event.now t c.apply.result c.state.invariant c.apply.ensures

pub returns-clause-units : goal.returns-clause-units
returns-clause-units c = let s : Core = core_of c.state.inside.machine in let t : Core = core_of c.apply.new.self in
    subst (λ (o : Core). KeepsUnits o t) c.state.view_is (applied_units s c.args.event.now t c.apply.result c.state.invariant c.apply.ensures)

pub returns-clause-born : goal.returns-clause-born
returns-clause-born c = let s : Core = core_of c.state.inside.machine in let t : Core = core_of c.apply.new.self in
    applied_born s c.args.event.now t c.apply.result c.state.invariant c.apply.ensures

pub returns-clause-enabled : goal.returns-clause-enabled
returns-clause-enabled c = let s : Core = core_of c.state.inside.machine in let t : Core = core_of c.apply.new.self in
    subst (λ (o : Core). IfOk c.apply.result (λ _. Enabled o c.args.event.now)) c.state.view_is (applied_enabled s c.args.event.now t c.apply.result c.apply.ensures)

pub returns-clause-after : goal.returns-clause-after
returns-clause-after c = let s : Core = core_of c.state.inside.machine in let t : Core = core_of c.apply.new.self in
    subst (λ (o : Core). IfOk c.apply.result (λ _. t ≡ after o c.args.event.now)) c.state.view_is (applied_after s c.args.event.now t c.apply.result c.apply.ensures)

pub returns-clause-found : goal.returns-clause-found
returns-clause-found c = let s : Core = core_of c.state.inside.machine in let t : Core = core_of c.apply.new.self in
    subst (λ (o : Core). IfOk c.apply.result (λ x. x ≡ found o c.args.event.now)) c.state.view_is (applied_found s c.args.event.now t c.apply.result c.apply.ensures)

pub returns-clause-not_enabled : goal.returns-clause-not_enabled
returns-clause-not_enabled c = let s : Core = core_of c.state.inside.machine in let t : Core = core_of c.apply.new.self in
    subst (λ (o : Core). c.apply.result ≡ Err NotEnabled → Enabled o c.args.event.now → ⊥) c.state.view_is (applied_not s c.args.event.now t c.apply.result c.apply.ensures)

pub returns-clause-unchanged : goal.returns-clause-unchanged
returns-clause-unchanged c = let s : Core = core_of c.state.inside.machine in let t : Core = core_of c.apply.new.self in
    subst (λ (o : Core). OnErr c.apply.result (t ≡ o)) c.state.view_is (applied_same s c.args.event.now t c.apply.result c.apply.ensures)
