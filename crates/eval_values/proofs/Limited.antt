-- Methods whose result may be too long for a string.
use Rattle.eval_values.specs.Within.{gives, throws, within}
use Rattle.std.proofs.Common.{◌≡◌, ℕ, ◌<◌, ◌≤◌, List, refl, ap, arith, Some, None, Ok, Err}
use Rattle.js_store.specs.State.{State, NamesUnits}
use Rattle.js_store.specs.Faults.{StoreStep, NeverSlots}
use Rattle.js_texts.specs.Answers.{method_part, full_part, IsLong, IsStoreFault}
use Rattle.js_store.proofs.Laws.{has_text, has_known}
use Rattle.js_store.specs.declared.faults.StoreFault.{StoreFault}
use Rattle.eval_values.specs.declared.value.Stop.TheVariants.{Threw}
use Rattle.eval_values.specs.Stops.{stop_of}
use Rattle.js_item.specs.Seen.{Val}
use Rattle.eval_values.specs.Outcome.{ledger_of}
use Rattle.js_item.specs.Contents.{text}
use Rattle.eval_values.specs.declared.value.Kind.TheVariants.{RangeError}
use Rattle.js_texts.specs.declared.faults.MethodFault.{MethodFault}
use Rattle.js_texts.specs.declared.faults.MethodFault.TheVariants.{Store as MethodStore}
use Rattle.js_texts.specs.declared.faults.MethodFault.TheVariants as method
use Rattle.js_item.specs.declared.item.Item.TheVariants.{Text}
use Rattle.std.specs.Prelude.{nat_le, if◌then◌else◌, true, false, length}
use Rattle.eval_values.specs.Ran.{EndsInPart}
use Rattle.eval_values.specs.Does.{GivesValue}
use Rattle.eval_values.proofs.Compose.{cut_of_step, cut_of_full, full_same, ran_of_step, ran_of_text}

-- a method that was refused, of which the result may be too long
pub within_cut : {F : Type 0} {a b : State F} {f : StoreFault} {i k : ℕ} (limit ids : ℕ) (words : ℕ → ℕ) (w : List ℕ) → StoreStep a b
    (Some f) i k → b.history ≡ a.history → NeverSlots (Some f) → i ≤ ids → k ≤ words (length w) → k ≤ words 0 → EndsInPart a b f (ledger_of (within limit ids words w))
within_cut {a = a} {b = b} {f = f} limit ids words w s h n p q r =
    elim (nat_le (length w) limit) as (λ v. EndsInPart a b f (ledger_of (if v then gives (text w) ids (words (length w)) else throws RangeError ids (words 0)))) [
      | true ↦ cut_of_step _ s h n p q
      | false ↦ cut_of_step _ s h n p r
    ]

pub within_full : {F : Type 0} {a b : State F} {f : StoreFault} {i k : ℕ} (limit ids : ℕ) (words : ℕ → ℕ) (w : List ℕ) → StoreStep a b
    (full_part (MethodStore f)) i k → b.history ≡ a.history → NeverSlots (full_part (MethodStore f)) → i ≤ ids → k ≤ words (length w) → k ≤
    words 0 → EndsInPart a b f (ledger_of (within limit ids words w))
within_full {a = a} {b = b} {f = f} limit ids words w s h n p q r =
    let s' = rw (full_same f) at s in
    let n' = rw (full_same f) at n in
    elim (nat_le (length w) limit) as (λ v. EndsInPart a b f (ledger_of (if v then gives (text w) ids (words (length w)) else throws RangeError ids (words 0)))) [
      | true ↦ cut_of_full f _ s' h n' p q
      | false ↦ cut_of_full f _ s' h n' p r
    ]

-- a method whose result isn't too long, and one whose result is
pub within_given : {F R : Type 0} (name : R → ℕ) (a b : State F) {i k : ℕ} (limit ids : ℕ) (words : ℕ → ℕ) (w : List ℕ) (r : R) → NamesUnits
    b (name r) w → length w ≤ limit → StoreStep a b None i k → b.history ≡ a.history → i ≤ ids → k ≤ words (length w) → GivesValue name a b
    (Ok (Text r)) (within limit ids words w)
within_given name a b limit ids words w r z l s h p q =
    let fits : nat_le (length w) limit ≡ true = grind (arith, l) in
    rw fits (record { is = ap text (has_text b (name r) w z); good = has_known b (name r) w z; ran = ran_of_text ids (words (length w)) w (name r) z s h p q })

pub within_thrown : {F R : Type 0} (name : R → ℕ) (a b : State F) {i k : ℕ} (limit ids : ℕ) (words : ℕ → ℕ) (w : List ℕ) → limit < length w
    → StoreStep a b None i k → b.history ≡ a.history → i ≤ ids → k ≤ words 0 → GivesValue name a b (Err (Threw RangeError)) (within limit ids words w)
within_thrown name a b limit ids words w l s h p q =
    let past : nat_le (length w) limit ≡ false = grind (arith, l) in
    rw past (refl, ran_of_step ids (words 0) s h p q)

-- a method's fault, of which the result may be too long
pub within_stops : {F R : Type 0} (name : R → ℕ) (a b : State F) {i k : ℕ} (limit ids : ℕ) (words : ℕ → ℕ) (w : List ℕ) (f : MethodFault) →
    IsLong f limit (length w) → StoreStep a b (method_part f) i k → b.history ≡ a.history → NeverSlots (method_part f) → i ≤ ids → k ≤ words
    (length w) → k ≤ words 0 → GivesValue name a b (Err (stop_of f)) (within limit ids words w)
within_stops name a b limit ids words w (method.Store f) l s h n p q r = within_cut limit ids words w s h n p q r
within_stops name a b limit ids words w (method.RangeError c) l s h n p q r = within_thrown name a b limit ids words w l.0 s h p r

pub within_ends : {F R : Type 0} (name : R → ℕ) (a b : State F) {i k : ℕ} (limit ids : ℕ) (words : ℕ → ℕ) (w : List ℕ) (f : MethodFault) →
    IsLong f limit (length w) → StoreStep a b (full_part f) i k → b.history ≡ a.history → NeverSlots (full_part f) → i ≤ ids → k ≤ words
    (length w) → k ≤ words 0 → GivesValue name a b (Err (stop_of f)) (within limit ids words w)
within_ends name a b limit ids words w (method.Store f) l s h n p q r = within_full limit ids words w s h n p q r
within_ends name a b limit ids words w (method.RangeError c) l s h n p q r = within_thrown name a b limit ids words w l.0 s h p r

-- a fault of a method that throws nothing
pub row_stops : {F R : Type 0} (name : R → ℕ) (a b : State F) {i k : ℕ} (ids words : ℕ) (v : Val) (f : MethodFault) → IsStoreFault f →
    StoreStep a b (method_part f) i k → b.history ≡ a.history → NeverSlots (method_part f) → i ≤ ids → k ≤ words → GivesValue name a b
    (Err (stop_of f)) (gives v ids words)
row_stops name a b ids words v (method.Store f) e s h n p q = cut_of_step _ s h n p q
row_stops name a b ids words v (method.RangeError c) e s h n p q = absurd e
