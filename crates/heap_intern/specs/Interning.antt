-- What interning a string says, for each function that does it.
use Rattle.std.specs.Prelude.{◌≡◌, ℕ, ◌+◌, ◌*◌, ◌≤◌, List, Result, IfOk}
use Rattle.heap_rule.specs.declared.view.View.{View}
use Rattle.heap_rule.specs.Maps.{Has}
use Rattle.heap_intern.specs.declared.table.faults.TableFull.{TableFull}
use Rattle.heap_intern.specs.Answers.{HeaderPlan, IsForwarded, IsFoundAgain, IsInternAnswer, IsPlan}
use Rattle.heap_intern.specs.SlotLoads.{IsInFirstSlot, LoadsSlots, answered, loads_at}

-- The settled string id was interned between two views. The answer is the one string in the table with its
-- units, or a refusal; a header that was made for it is one by a plan for this string. Whoever has seen that
-- string at its place in the table is answered, and uses nothing. String id then forwards to the answer,
-- unless it is a fixed Flat. No slot was loaded more than twice.
pub record InternsSettled (v w : View) (id : ℕ) (r : Result ℕ TableFull) : Type 0 where
  pub answer : (us : List ℕ) → Has v.units id us
      → (plan : HeaderPlan) × IsPlan v w id us plan × IsInternAnswer v w us plan r
  pub again : (us : List ℕ) → Has v.units id us → IsFoundAgain v w us r
  pub forwards : IfOk r (λ i. IsForwarded w id i)
  pub few : (k : ℕ) → loads_at w k ≤ loads_at v k + 2

-- A count of the loads of slots, before and after string id was interned between two views. It went on by
-- each of them: by 2 where the first slot of the path was known to have the string, and at most by twice the
-- number of slots.
pub record CountsSlots (v w : View) (id : ℕ) (r : Result ℕ TableFull) (before after : ℕ) : Type 0 where
  pub loads : LoadsSlots v w (answered r) before after
  pub first : (us : List ℕ) → Has v.units id us → IsInFirstSlot v us → after ≡ before + 2
  pub most : after ≤ before + 2 * v.sizes.slots
