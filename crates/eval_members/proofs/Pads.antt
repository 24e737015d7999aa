-- Methods that repeat a string or a filler.
use Rattle.eval_members.specs.Parts.{filled, repeated}
use Rattle.eval_values.specs.Within.{within}
use Rattle.eval_values.specs.RowNames.{repeat_ids, repeat_words, pad_ids, pad_words}
use Rattle.std.proofs.Common.{arith, ◌≡◌, ℕ, ◌+◌, ◌<◌, ◌≤◌, List, length, refl, subst, Bool, true, false, nat_le, Some, None, Result, Ok, Err}
use Rattle.js_number.specs.declared.Num.{Num}
use Rattle.js_store.specs.State.{State, Grows, IsKnown, text}
use Rattle.js_store.specs.Faults.{StoreStep, NeverSlots}
use Rattle.js_texts.specs.Answers.{method_part}
use Rattle.js_texts.specs.declared.faults.MethodFault.{MethodFault}
use Rattle.js_texts.specs.declared.faults.MethodFault.TheVariants as method
use Rattle.js_store.specs.declared.faults.StoreFault.{StoreFault}
use Rattle.js_texts.specs.declared.faults.Cause.{Cause}
use Rattle.js_store.proofs.Laws.{text_still}
use Rattle.js_methods.specs.Building.{is_count, repeat_of, IsCountFault, IsRepeatFault}
use Rattle.js_item.specs.declared.item.Item.{Item}
use Rattle.eval_values.specs.declared.value.Kind.TheVariants.{RangeError}
use Rattle.eval_values.specs.declared.value.Stop.{Stop}
use Rattle.eval_values.specs.declared.value.Stop.TheVariants.{Threw}
use Rattle.js_item.specs.Seen.{Val, seen}
use Rattle.eval_values.specs.Outcome.{ledger_of}
use Rattle.eval_values.specs.Conversions.{to_string, string_units}
use Rattle.eval_values.specs.Arguments.{is_undefined, second_of}
use Rattle.eval_values.proofs.Still.{values_still}
use Rattle.eval_values.specs.Stops.{stop_of}
use Rattle.eval_values.specs.Need.{pads}
use Rattle.eval_members.specs.Building.{padded}
use Rattle.js_item.specs.Fine.{IsFine}
use Rattle.eval_values.specs.Seen.{all_seen, AllFine}
use Rattle.eval_values.specs.Ran.{EndsInPart}
use Rattle.eval_values.specs.Does.{GivesValue, GivesText}
use Rattle.eval_values.proofs.Compose.{cut_of_step, ran_of_step, did_before}
use Rattle.eval_values.proofs.Limited.{within_cut, within_thrown}
use Rattle.eval_values.proofs.TextArguments.{text_converts, text_fails}

-- how `repeat` stops
module _ {F : Type 0} {a b : State F} {i k : ℕ} (limit : ℕ) (u : List ℕ) (n : Num) (h : b.history ≡ a.history) (p : i ≤ repeat_ids) (q : k ≤ repeat_words (length u)) where
  repeat_cut : (counts : Bool) (f : StoreFault) → StoreStep a b (Some f) i k → NeverSlots (Some f) → EndsInPart a b f (ledger_of (repeated counts limit u n))
  repeat_cut true f s m = within_cut limit repeat_ids (λ r. repeat_words (length u)) (repeat_of u n) s h m p q q
  repeat_cut false f s m = cut_of_step _ s h m p q

  repeat_thrown : {R : Type 0} (name : R → ℕ) (c : Cause) (counts : Bool) → IsCountFault counts c limit (length (repeat_of u n)) → StoreStep
      a b None i k → GivesValue name a b (Err (Threw RangeError)) (repeated counts limit u n)
  repeat_thrown name c true l s = within_thrown name a b limit repeat_ids (λ r. repeat_words (length u)) (repeat_of u n) l.0 s h p q
  repeat_thrown name c false l s = (refl, ran_of_step repeat_ids (repeat_words (length u)) s h p q)

  pub repeat_stops : {R : Type 0} (name : R → ℕ) (f : MethodFault) → IsRepeatFault f (is_count n) limit (length (repeat_of u n)) → StoreStep
      a b (method_part f) i k → NeverSlots (method_part f) → GivesValue name a b (Err (stop_of f)) (repeated (is_count n) limit u n)
  repeat_stops name (method.Store f) l s m = repeat_cut (is_count n) f s m
  repeat_stops name (method.RangeError c) l s m = repeat_thrown name c (is_count n) l s

module _ {F R : Type 0} (name : R → ℕ) (a b c : State F) (pad : List ℕ → ℕ → List ℕ → List ℕ) (s : R) (m : ℕ) (f : Val) where
  -- a string that has as many units
  pub pads_itself : (r : Result (Item R) Stop) → StoreStep a b None 0 0 → b.history ≡ a.history → IsKnown a (name s) → m ≤ length
      (text a (name s)) → ((ids : ℕ) (words : ℕ → ℕ) → GivesValue name b c r (within b.limit ids words (text b (name s)))) → GivesValue name a
      c r (padded a.limit (pad (text a (name s))) (text a (name s)) m f)
  pads_itself r t h k l d =
      let has : nat_le m (length (text a (name s))) ≡ true = grind (arith, l) in
      let words : ℕ → ℕ = λ k. pad_words (length (text a (name s)) + string_units f) in
      rw has (did_before a b c (λ o v. seen o name v) (λ o v. IsFine o name v) r (within a.limit pad_ids words (text a (name s))) t h
      (subst (λ (q : ℕ × List ℕ). GivesValue name b c r (within q.0 pad_ids words q.1)) (cc (t.grows.limit, text_still t.grows (name s) k)) (d pad_ids words)))

  -- a filler that is given, as a string
  pub fills_text : (w : R) (r : Result (Item R) Stop) → Grows a b → IsKnown a (name s) → is_undefined f ≡ false → GivesText name a b (Ok w)
      (to_string a.limit f) → GivesValue name b c r (within b.limit pad_ids
      (λ k. pad_words (length (text b (name s)) + length (text b (name w)))) (pad (text b (name s)) m (text b (name w)))) → GivesValue name a
      c r (filled a.limit (pad (text a (name s))) (text a (name s)) m f)
  fills_text w r g k e x d =
      rw e (text_converts name (pads (length (text a (name s)) + string_units f)) a b c w r (to_string a.limit f)
      (λ v. within a.limit pad_ids (λ k. pad_words (length (text a (name s)) + length v)) (pad (text a (name s)) m v)) x
      (subst (λ (q : ℕ × List ℕ). GivesValue name b c r (within q.0 pad_ids (λ k. pad_words (length q.1 + length (text b (name w))))
      (pad q.1 m (text b (name w))))) (cc (g.limit, text_still g (name s) k)) d))

  pub fill_stops : (n : Stop) → is_undefined f ≡ false → GivesText name a b (Err n) (to_string a.limit f) → GivesValue name a b (Err n) (filled a.limit (pad (text a (name s))) (text a (name s)) m f)
  fill_stops n e x = rw e (text_fails name (pads (length (text a (name s)) + string_units f)) a b n (to_string a.limit f)
      (λ v. within a.limit pad_ids (λ k. pad_words (length (text a (name s)) + length v)) (pad (text a (name s)) m v)) x)

-- a string that has fewer units, where the filler is the second argument
pub pads_more : {F R : Type 0} (name : R → ℕ) (a b c : State F) (pad : List ℕ → ℕ → List ℕ → List ℕ) (s : R) (m : ℕ) (vs : List
    (Item R)) (r : Result (Item R) Stop) → StoreStep a b None 0 0 → b.history ≡ a.history → IsKnown a (name s) → AllFine a name vs → length
    (text a (name s)) < m → GivesValue name b c r (filled b.limit (pad (text b (name s))) (text b (name s)) m
    (second_of (all_seen b name vs))) → GivesValue name a c r (padded a.limit (pad (text a (name s))) (text a (name s)) m (second_of (all_seen a name vs)))
pads_more name a b c pad s m vs r t h k f l d =
    let lacks : nat_le m (length (text a (name s))) ≡ false = grind (arith, l) in
    let u = text a (name s) in
    let one = subst (λ (q : List ℕ). GivesValue name b c r (filled b.limit (pad q) q m (second_of (all_seen b name vs)))) (text_still t.grows (name s) k) d in
    let two = subst (λ (q : List Val). GivesValue name b c r (filled b.limit (pad u) u m (second_of q))) (values_still a b name t.grows vs f) one in
    let three = subst (λ (q : ℕ). GivesValue name b c r (filled q (pad u) u m (second_of (all_seen a name vs)))) t.grows.limit two in
    rw lacks (did_before a b c (λ o v. seen o name v) (λ o v. IsFine o name v) r (filled a.limit (pad u) u m (second_of (all_seen a name vs))) t h three)
