-- Every list of events, each enabled in its turn, keeps the rule and the units of the born ids.
use Rattle.std.proofs.Common.{List, [], ◌∷◌, inl, inr, ⊎_elim, sym, refl, ap, ◌∙◌}
use mathlib.Core.Option.{some-ne-none}
use lib.ListN.{get_elem?}
use Rattle.heap_rule.specs.declared.view.View.{View}
use Rattle.heap_rule.specs.Sound.{AreLegal}
use Rattle.heap_core.specs.Core.{Core}
use Rattle.heap_core.specs.Events.{HasNoHeap, IsCore, IsSoundCore, after, RunsAreSound, MadeRunsAreSound, RunsKeepUnits, RunsAreLegal}
use Rattle.heap_rule.proofs.Legal.{legal}
use Rattle.heap_core.proofs.Kept.{enabled_keeps}

pub runs_sound : RunsAreSound
runs_sound s [] h en = h
runs_sound s (e ∷ es) h en = runs_sound (after s e) es (enabled_keeps s e (inr h) en.0).0 en.1

pub made_sound : MadeRunsAreSound
made_sound s e es h en = runs_sound (after s e) es (enabled_keeps s e (inl h) en.0).0 en.1

pub runs_keep : RunsKeepUnits
runs_keep s [] h en i b = (b, refl)
runs_keep s (e ∷ es) h en i b = let k = enabled_keeps s e h en.0 in let one = k.1 i b in let rest = runs_keep (after s e) es (inr k.0) en.1 i one.0 in (rest.0, rest.1 ∙ one.1)

core_legal : (s : Core) → IsCore s → AreLegal s.views
core_legal s h = ⊎_elim (λ (n : HasNoHeap s). λ j v at live. absurd (some-ne-none v (sym at ∙ ap (λ (vs : List View). get_elem? vs j) n.1)))
    (λ (g : IsSoundCore s). legal s.size s.agents s.words s.views g) h

pub runs_legal : RunsAreLegal
runs_legal s [] h en = core_legal s h
runs_legal s (e ∷ es) h en = runs_legal (after s e) es (inr (enabled_keeps s e h en.0).0) en.1
