-- A string in the only slot stands in the first one of its path.
use Rattle.std.proofs.Common.{◌≡◌, ℕ, List, subst, arith}
use Rattle.heap_rule.specs.declared.view.View.{View}
use Rattle.heap_rule.specs.Maps.{Has}
use Rattle.heap_rule.specs.Paths.{path_slot}
use Rattle.heap_rule.specs.Sound.{IsPossible}
use Rattle.heap_rule.proofs.Paths.{place_inside}
use Rattle.heap_rule.proofs.Possible.{possible_inside}
use Rattle.heap_intern.specs.SlotLoads.{IsInFirstSlot}

pub first_of : (v : View) → IsPossible v → v.sizes.slots ≡ 1 → (us : List ℕ) (k i : ℕ) → Has v.slots k i → Has v.units i us → IsInFirstSlot v us
first_of v p one us k i h u = let a = possible_inside v p k i h in let b = place_inside us v.sizes.slots 0 (omega arith) in let e : k ≡ path_slot us v.sizes.slots 0 = omega arith in
    (i, subst (λ (j : ℕ). Has v.slots j i) e h, u)
