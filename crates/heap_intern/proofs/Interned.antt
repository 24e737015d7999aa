-- All that interning a string says, from its answer and its loads.
use Rattle.std.proofs.Common.{◌≡◌, ℕ, ◌+◌, ◌≤◌, List, Result, IfOk}
use Rattle.heap_rule.specs.declared.view.View.{View}
use Rattle.heap_rule.specs.Maps.{Has}
use Rattle.heap_rule.specs.Sound.{IsPossible}
use Rattle.heap_intern.specs.declared.table.faults.TableFull.{TableFull}
use Rattle.heap_intern.specs.Answers.{HeaderPlan, IsForwarded, IsInternAnswer, IsPlan}
use Rattle.heap_intern.specs.Interning.{CountsSlots, InternsSettled}
use Rattle.heap_intern.specs.SlotLoads.{IsInFirstSlot, LoadsSlots, answered, loads_at}
use Rattle.heap_intern.proofs.Again.{found_again}
use Rattle.heap_intern.proofs.Loading.{slots_most}

module _ (v w : View) (id : ℕ) (r : Result ℕ TableFull) where
  pub interns_settled : IsPossible v → IsPossible w → ((us : List ℕ) → Has v.units id us → (plan : HeaderPlan) × IsPlan v w id us plan × IsInternAnswer v w us plan r) →
      IfOk r (λ i. IsForwarded w id i) → ((k : ℕ) → loads_at w k ≤ loads_at v k + 2) → InternsSettled v w id r
  interns_settled p q answer forwards few = record {
    answer = answer;
    again = λ us h i known stands. let t = answer us h in found_again v w us p q i known stands t.0 r t.2;
    forwards = forwards;
    few = few;
  }

  pub counts_slots : (before after : ℕ) → LoadsSlots v w (answered r) before after →
      ((us : List ℕ) → Has v.units id us → IsInFirstSlot v us → after ≡ before + 2) → CountsSlots v w id r before after
  counts_slots before after loads first = record { loads = loads; first = first; most = slots_most v w (answered r) before after loads }
