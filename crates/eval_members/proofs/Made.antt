-- New strings that calls of several parts give: nothing is made of units that are more than the limit.
use Rattle.eval_values.specs.Within.{gives, throws, within}
use Rattle.eval_values.specs.RowNames.{parts_ids, parts_words}
use Rattle.std.proofs.Common.{arith, ◌≡◌, ℕ, ◌+◌, ◌<◌, ◌≤◌, List, length, refl, Bool, true, false, nat_le, if◌then◌else◌, None, Ok, Err}
use Rattle.js_store.specs.State.{State, NamesUnits}
use Rattle.js_store.specs.Faults.{StoreStep, NeverSlots}
use Rattle.js_texts.specs.Answers.{full_part, IsLong}
use Rattle.js_store.specs.declared.faults.StoreFault.{StoreFault}
use Rattle.js_texts.specs.declared.faults.MethodFault.{MethodFault}
use Rattle.js_texts.specs.declared.faults.MethodFault.TheVariants.{Store as MethodStore}
use Rattle.js_texts.specs.declared.faults.MethodFault.TheVariants as method
use Rattle.js_texts.specs.Use.{made_words}
use Rattle.js_item.specs.declared.item.Item.TheVariants.{Text}
use Rattle.eval_values.specs.declared.value.Kind.TheVariants.{RangeError}
use Rattle.eval_values.specs.declared.value.Stop.TheVariants.{Threw}
use Rattle.eval_values.specs.Outcome.{ledger_of}
use Rattle.eval_values.specs.Stops.{stop_of}
use Rattle.js_item.specs.Contents.{text as text_value}
use Rattle.eval_values.specs.Ran.{EndsInPart}
use Rattle.eval_values.specs.Does.{GivesValue}
use Rattle.eval_values.proofs.Limited.{within_given, within_thrown}
use Rattle.eval_values.proofs.Needs.{some_part, made_most, made_none, cut_of_part}

-- the string r of an operation of p parts, whose operands have t units, where all but the string takes i ids and k words
module _ {F : Type 0} {a b : State F} (limit t p i k : ℕ) (r : List ℕ) (h : b.history ≡ a.history) (o : i ≤ 8) (q : k ≤ parts_words p t) where
  cut_by : (v : Bool) → nat_le (length r) limit ≡ v → (f : StoreFault) → StoreStep a b (full_part (MethodStore f)) i
      (k + made_words limit r) → NeverSlots (full_part (MethodStore f)) → EndsInPart a b f
      (ledger_of (if v then gives (text_value r) (parts_ids p) (parts_words p (t + length r)) else throws RangeError (parts_ids p) (parts_words p (t + 0))))
  cut_by true e f s n = cut_of_part f _ s h n (omega (arith, o, some_part p)) (omega (arith, q, some_part p, made_most limit r))
  cut_by false e f s n =
      let l : limit < length r = grind (arith, e) in
      cut_of_part f _ s h n (omega (arith, o, some_part p)) (omega (arith, q, some_part p, made_none limit r l))

  pub parts_cut : (f : StoreFault) → StoreStep a b (full_part (MethodStore f)) i (k + made_words limit r) → NeverSlots
      (full_part (MethodStore f)) → EndsInPart a b f (ledger_of (within limit (parts_ids p) (λ n. parts_words p (t + n)) r))
  parts_cut f s n = cut_by (nat_le (length r) limit) refl f s n

  pub parts_given : {R : Type 0} (name : R → ℕ) (e : R) → NamesUnits b (name e) r → length r ≤ limit → StoreStep a b None i
      (k + made_words limit r) → GivesValue name a b (Ok (Text e)) (within limit (parts_ids p) (λ n. parts_words p (t + n)) r)
  parts_given name e z l s = within_given name a b limit (parts_ids p) (λ n. parts_words p (t + n)) r e z l s h (omega (arith, o, some_part p)) (omega (arith, q, some_part p, made_most limit r))

  pub parts_thrown : {R : Type 0} (name : R → ℕ) → limit < length r → StoreStep a b None i (k + made_words limit r) → GivesValue name a b
      (Err (Threw RangeError)) (within limit (parts_ids p) (λ n. parts_words p (t + n)) r)
  parts_thrown name l s = within_thrown name a b limit (parts_ids p) (λ n. parts_words p (t + n)) r l s h (omega (arith, o, some_part p)) (omega (arith, q, some_part p, made_none limit r l))

  pub parts_stops : {R : Type 0} (name : R → ℕ) (f : MethodFault) → IsLong f limit (length r) → StoreStep a b (full_part f) i
      (k + made_words limit r) → NeverSlots (full_part f) → GivesValue name a b (Err (stop_of f)) (within limit (parts_ids p) (λ n. parts_words p (t + n)) r)
  parts_stops name (method.Store f) l s n = parts_cut f s n
  parts_stops name (method.RangeError c) l s n = parts_thrown name l.0 s
