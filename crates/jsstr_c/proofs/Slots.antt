-- A string that is interned is known.
use Rattle.std.proofs.Common.{◌≡◌, ℕ, Option, None, Some, subst, sym}
use Rattle.heap_rule.specs.Maps.{HasKey}
use Rattle.heap_agents.specs.declared.held.Held.{Held}
use Rattle.heap_agents.specs.Ready.{HasInterned, handle_view}
use Rattle.c_handles.specs.Handles.{HasAs}

known_too : (o : Option Held) (live : ℕ) → HasAs live o → (i : ℕ) → HasInterned o i → HasKey (handle_view o).units i
known_too None live h i k = absurd k
known_too (Some x) live h i k = h.1.marked.known i (h.1.marked.both i k)

-- so after a test that left the handle as it was
pub known_after : (o p : Option Held) (live : ℕ) → HasAs live o → (i : ℕ) → HasInterned o i → p ≡ o → HasKey (handle_view p).units i
known_after o p live h i k same = subst (λ (q : Option Held). HasKey (handle_view q).units i) (sym same) (known_too o live h i k)
