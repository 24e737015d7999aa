-- A handle that is ready has something, and what its agent knows may be.
use Rattle.std.proofs.Common.{◌≡◌, refl, Option, None, Some}
use Rattle.heap_rule.specs.Sound.{IsPossible}
use Rattle.heap_agents.specs.declared.held.Held.{Held}
use Rattle.heap_agents.specs.Held.{IsHeld}
use Rattle.heap_agents.specs.Shared.{IsThere, SharedText, view_if}
use Rattle.heap_agents.specs.Ready.{IsReady, handle_view}

pub something : (o : Option Held) → IsReady o → (x : Held) × (o ≡ Some x)
something None r = absurd r
something (Some x) r = (x, refl)

pub held_there : (o : Option Held) → IsReady o → (x : Held) × (o ≡ Some x) × IsHeld x
held_there None r = absurd r
held_there (Some x) r = (x, refl, r)

may_be : (t : Option SharedText) → IsThere t → IsPossible (view_if t)
may_be None r = absurd r
may_be (Some t) r = t.reader.belongs.5

pub possible : (o : Option Held) → IsReady o → IsPossible (handle_view o)
possible None r = absurd r
possible (Some x) r = may_be x.text r.there
