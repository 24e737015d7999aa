-- Two strings joined, which may be too long for a string.
use Rattle.eval_values.specs.RowNames.{joins_ids, joins_words}
use Rattle.std.proofs.Common.{◌≡◌, ℕ, ◌+◌, List, ◌++◌, refl, arith, Some, Err}
use Rattle.js_store.specs.State.{State}
use Rattle.js_store.specs.Faults.{StoreStep, NeverSlots}
use Rattle.js_texts.specs.Answers.{method_part, IsLong}
use Rattle.js_store.specs.Rows.{join_ids, join_words}
use Rattle.js_store.proofs.Laws.{joined_within}
use Rattle.js_store.specs.declared.faults.StoreFault.{StoreFault}
use Rattle.eval_values.specs.Stops.{stop_of}
use Rattle.eval_values.specs.Outcome.{gave, ended, threw, cost, ledger_of}
use Rattle.eval_values.specs.Need.{joins}
use Rattle.eval_values.specs.declared.value.Kind.TheVariants.{RangeError}
use Rattle.js_texts.specs.declared.faults.MethodFault.{MethodFault}
use Rattle.js_texts.specs.declared.faults.MethodFault.TheVariants as method
use Rattle.eval_members.specs.Building.{joined_text}
use Rattle.std.specs.Prelude.{nat_le, if◌then◌else◌, true, false, length}
use Rattle.eval_values.specs.Ran.{EndsInPart}
use Rattle.eval_values.specs.Does.{GivesText}
use Rattle.eval_values.proofs.Compose.{cut_of_step, ran_of_step}

-- two strings that were not joined
joined_cut : {F : Type 0} {a b : State F} {f : StoreFault} (limit : ℕ) (u w : List ℕ) → StoreStep a b (Some f)
    (join_ids (length u) (length w)) (join_words (length u) (length w)) → b.history ≡ a.history → NeverSlots (Some f) → EndsInPart a b f
    (ledger_of (joined_text limit u w))
joined_cut {a = a} {b = b} {f = f} limit u w s0 h n =
    let s = joined_within (length u) (length w) s0 in
    elim (nat_le (length u + length w) limit) as (λ v. EndsInPart a b f (ledger_of (if v then gave (u ++ w) (cost joins) else ended (threw RangeError) (cost joins)))) [
      | true ↦ cut_of_step _ s h n (omega arith) (omega arith)
      | false ↦ cut_of_step _ s h n (omega arith) (omega arith)
    ]

-- the same by a method's fault
pub joined_stops : {F R : Type 0} (name : R → ℕ) (a b : State F) (limit : ℕ) (u w : List ℕ) (f : MethodFault) → IsLong f limit
    (length u + length w) → StoreStep a b (method_part f) (join_ids (length u) (length w)) (join_words (length u) (length w)) → b.history ≡
    a.history → NeverSlots (method_part f) → GivesText {R = R} name a b (Err (stop_of f)) (joined_text limit u w)
joined_stops name a b limit u w (method.Store f) l s h n = joined_cut limit u w s h n
joined_stops name a b limit u w (method.RangeError c) l s0 h n =
    let s = joined_within (length u) (length w) s0 in
    let past : nat_le (length u + length w) limit ≡ false = grind (arith, l.0) in
    rw past (refl, ran_of_step joins_ids joins_words s h (omega arith) (omega arith))
