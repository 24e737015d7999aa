use Rattle.std.proofs.Common.{◌∙◌, ◌≤◌, ℕ, List, length, sym, ap, subst, refl}
use Rattle.std.specs.Prelude.{IfSome, IsNone}
use Rattle.std.specs.Option.{option_copied}
use Rattle.heap_rule.specs.declared.view.View.{View}
use Rattle.heap_rule.specs.Sound.{At}
use Rattle.heap_core.specs.Core.{Core, core_of}
use Rattle.heap_core.specs.Events.{HasEntry}
use Rattle.heap_core.proofs.StateLemmas.{at_here}
use Rattle.heap_core.proofs.Entries.{no_view, no_slot, if_units, no_units}
use Rattle.heap_core.proofs.state.CoreState.entry_for.Goals as goal

pub returns-in-Some-get-clause-some : goal.returns-in-Some-get-clause-some
returns-in-Some-get-clause-some c = let s : Core = core_of c.self.inside.machine in let h = c.in-Some.ensures.lookup in
    let at : At s.views c.args.view c.in-Some.view.now = subst (λ (l : List View). At l c.args.view c.in-Some.view.now)
    c.deref.ensures.value (at_here c.deref.result.now c.args.view c.in-Some.view.now h.3.0 h.1) in
    subst (λ (o : Core). IfSome c.get-in-Some-get.result (λ us. HasEntry o c.args.view c.args.slot us.now)) c.self.view_is
    (if_units s c.args.view c.args.slot c.in-Some.view.now at c.in-Some-get.id.now (sym c.get-in-Some.ensures ∙ ap option_copied c.in-Some-get.is) c.get-in-Some-get.result c.get-in-Some-get.ensures)

pub returns-in-Some-get-clause-none : goal.returns-in-Some-get-clause-none
returns-in-Some-get-clause-none c = let s : Core = core_of c.self.inside.machine in let h = c.in-Some.ensures.lookup in
    let at : At s.views c.args.view c.in-Some.view.now = subst (λ (l : List View). At l c.args.view c.in-Some.view.now)
    c.deref.ensures.value (at_here c.deref.result.now c.args.view c.in-Some.view.now h.3.0 h.1) in
    subst (λ (o : Core). (IsNone c.get-in-Some-get.result → (us : List ℕ) → HasEntry o c.args.view c.args.slot
    us → ⊥) × (((us : List ℕ) → HasEntry o c.args.view c.args.slot us → ⊥) → IsNone c.get-in-Some-get.result)) c.self.view_is
    (no_units s c.args.view c.args.slot c.in-Some.view.now at c.in-Some-get.id.now (sym c.get-in-Some.ensures ∙ ap option_copied c.in-Some-get.is) c.get-in-Some-get.result c.get-in-Some-get.ensures)

pub returns-in-None-get-clause-none : goal.returns-in-None-get-clause-none
returns-in-None-get-clause-none c = let s : Core = core_of c.self.inside.machine in let h = c.in-Some.ensures.lookup in
    let at : At s.views c.args.view c.in-Some.view.now = subst (λ (l : List View). At l c.args.view c.in-Some.view.now)
    c.deref.ensures.value (at_here c.deref.result.now c.args.view c.in-Some.view.now h.3.0 h.1) in (
      (λ _. subst (λ (o : Core). (us : List ℕ) → HasEntry o c.args.view c.args.slot us → ⊥) c.self.view_is
          (no_slot s c.args.view c.args.slot c.in-Some.view.now at (sym c.get-in-Some.ensures ∙ ap option_copied c.in-None-get.is))),
      (λ _. refl),
    )

pub returns-in-None-clause-none : goal.returns-in-None-clause-none
returns-in-None-clause-none c = let s : Core = core_of c.self.inside.machine in (
  (λ _. subst (λ (o : Core). (us : List ℕ) → HasEntry o c.args.view c.args.slot us → ⊥) c.self.view_is
      (no_view s c.args.view c.args.slot (subst (λ (l : List View). length l ≤ c.args.view) c.deref.ensures.value c.in-None.ensures.lookup.3))),
  (λ _. refl),
)
