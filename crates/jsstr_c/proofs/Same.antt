-- Two answers of the string table that an agent knows are one where the units that were interned are equal.
use Rattle.std.proofs.Common.{◌≡◌, ℕ, List, refl, Option, None, Some}
use Rattle.std.specs.List.{Contains}
use Rattle.heap_rule.specs.Views.{history}
use Rattle.heap_session.specs.Sound.{possible_legal}
use Rattle.heap_agents.specs.declared.held.Held.{Held}
use Rattle.heap_agents.specs.Ready.{HasInterned, IsReady, handle_view}
use Rattle.c_handles.specs.Handles.{HasAs}
use Rattle.c_handles.proofs.Ready.{possible}

pub called : (o : Option Held) (live : ℕ) → HasAs live o → (i : ℕ) → HasInterned o i → IsReady o × ((u : List ℕ) × Contains (history (handle_view o)) (u, i))
called None live h i k = absurd k
called (Some x) live h i k = (h.1, h.1.marked.calls i k)

pub one_call : (o : Option Held) → IsReady o → (us : List ℕ) (a b : ℕ) → Contains (history (handle_view o)) (us, a) → Contains (history (handle_view o)) (us, b) → a ≡ b
one_call o ready us a b h k = (possible_legal (handle_view o) (possible o ready) us us a b h k).0 refl
