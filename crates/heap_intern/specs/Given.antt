-- What the string table answers for units that are in no string.
use Rattle.std.specs.Prelude.{◌≡◌, ℕ, ◌+◌, ◌≤◌, List, Option, Some, Result}
use Rattle.heap_rule.specs.declared.view.View.{View}
use Rattle.heap_rule.specs.Maps.{Has}
use Rattle.heap_read.specs.Reads.{HoldsForms}
use Rattle.heap_intern.specs.declared.table.faults.TableFull.{TableFull}
use Rattle.heap_intern.specs.Answers.{FindsString, IsFoundAgain, IsInternAnswer, StandsInSlot, copy_plan}
use Rattle.heap_intern.specs.SlotLoads.{loads_at}

-- They are interned: the header of a new one lies over a copy, whoever has seen the string at its place is
-- answered and uses nothing, no form that was seen is another one, and no slot is loaded more than twice.
pub record InternsGiven (v w : View) (us : List ℕ) (r : Result ℕ TableFull) : Type 0 where
  pub answer : IsInternAnswer v w us (copy_plan us) r
  pub again : IsFoundAgain v w us r
  pub forms : HoldsForms v w
  pub few : (k : ℕ) → loads_at w k ≤ loads_at v k + 2

-- They are looked for, and whoever has seen the string at its place is answered. No slot is loaded more than
-- twice.
pub record FindsGiven (v w : View) (us : List ℕ) (r : Option ℕ) : Type 0 where
  pub answer : FindsString v w us r
  pub again : (i : ℕ) → Has v.units i us → StandsInSlot v us i → r ≡ Some i
  pub few : (k : ℕ) → loads_at w k ≤ loads_at v k + 2
