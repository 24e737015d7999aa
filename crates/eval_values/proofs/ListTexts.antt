-- The string of an array: its elements joined by commas.
use Rattle.eval_values.specs.RowNames.{parts_ids, parts_words}
use Rattle.std.proofs.Common.{arith, ◌≡◌, ℕ, ◌+◌, ◌*◌, ◌<◌, ◌≤◌, List, length, [], refl, Bool, true, false, nat_le, if◌then◌else◌, None, Ok, Err}
use Rattle.js_store.specs.State.{State, NamesUnits}
use Rattle.js_store.specs.Faults.{StoreStep, NeverSlots}
use Rattle.js_texts.specs.Answers.{full_part, IsLong}
use Rattle.js_store.specs.declared.faults.StoreFault.{StoreFault}
use Rattle.js_texts.specs.declared.faults.MethodFault.{MethodFault}
use Rattle.js_texts.specs.declared.faults.MethodFault.TheVariants.{Store as MethodStore}
use Rattle.js_texts.specs.declared.faults.MethodFault.TheVariants as method
use Rattle.js_store.proofs.Laws.{has_text, has_known}
use Rattle.js_texts.specs.Use.{made_words}
use Rattle.eval_values.specs.declared.value.Kind.TheVariants.{RangeError}
use Rattle.eval_values.specs.declared.value.Stop.TheVariants.{Threw}
use Rattle.eval_values.specs.Outcome.{gave, ended, threw, ledger_of}
use Rattle.eval_values.specs.Stops.{stop_of}
use Rattle.eval_values.specs.Conversions.{list_units, comma_joined, list_string}
use Rattle.eval_values.specs.Ran.{EndsInPart}
use Rattle.eval_values.specs.Does.{GivesText}
use Rattle.eval_values.proofs.Compose.{ran_of_step}
use Rattle.eval_values.proofs.Needs.{made_most, made_none, cut_of_part}
use Rattle.eval_values.proofs.Needs.{some_most}

-- strings whose settling takes k words
module _ (limit k : ℕ) (us : List (List ℕ)) (q : 4 * k ≤ list_units us + 3 * length us) where
  ids_fit : 2 ≤ parts_ids (length us)
  ids_fit = omega (arith, some_most (length us))

  words_fit : k + made_words limit (comma_joined us) + 1 ≤ parts_words (length us) (list_units us + length (comma_joined us))
  words_fit = omega (arith, q, some_most (length us), made_most limit (comma_joined us))

  words_fit_long : limit < length (comma_joined us) → k + made_words limit (comma_joined us) + 1 ≤ parts_words (length us) (list_units us)
  words_fit_long l = omega (arith, q, some_most (length us), made_none limit (comma_joined us) l)

module _ {F : Type 0} {a b : State F} (limit k : ℕ) (us : List (List ℕ)) (h : b.history ≡ a.history) (q : 4 * k ≤ list_units us + 3 * length us) where
  cut_by : (v : Bool) → nat_le (length (comma_joined us)) limit ≡ v → (f : StoreFault) → StoreStep a b (full_part (MethodStore f)) 2
      (k + made_words limit (comma_joined us) + 1) → NeverSlots (full_part (MethodStore f)) → EndsInPart a b f (ledger_of (if v
      then gave (comma_joined us) (record { interned = []; texts = []; ids = parts_ids (length us); words = parts_words (length us) (list_units us + length (comma_joined us)) })
      else ended (threw RangeError) (record { interned = []; texts = []; ids = parts_ids (length us); words = parts_words (length us) (list_units us) })))
  cut_by true e f s n = cut_of_part f _ s h n (ids_fit limit k us q) (words_fit limit k us q)
  cut_by false e f s n =
      let l : limit < length (comma_joined us) = grind (arith, e) in
      cut_of_part f _ s h n (ids_fit limit k us q) (words_fit_long limit k us q l)

  list_cut : (f : StoreFault) → StoreStep a b (full_part (MethodStore f)) 2 (k + made_words limit (comma_joined us) + 1) → NeverSlots
      (full_part (MethodStore f)) → EndsInPart a b f (ledger_of (list_string limit us))
  list_cut f s n = cut_by (nat_le (length (comma_joined us)) limit) refl f s n

  pub list_given : {R : Type 0} (name : R → ℕ) (r : R) → NamesUnits b (name r) (comma_joined us) → length (comma_joined us) ≤ limit →
      StoreStep a b None 2 (k + made_words limit (comma_joined us) + 1) → GivesText name a b (Ok r) (list_string limit us)
  list_given name r z l s =
      let fits : nat_le (length (comma_joined us)) limit ≡ true = grind (arith, l) in
      rw fits (record {
        is = has_text b (name r) (comma_joined us) z;
        good = has_known b (name r) (comma_joined us) z;
        ran = ran_of_step (parts_ids (length us)) (parts_words (length us) (list_units us + length (comma_joined us))) s h
            (ids_fit limit k us q) (words_fit limit k us q);
      })

  list_thrown : {R : Type 0} (name : R → ℕ) → limit < length (comma_joined us) → StoreStep a b None 2
      (k + made_words limit (comma_joined us) + 1) → GivesText {R = R} name a b (Err (Threw RangeError)) (list_string limit us)
  list_thrown name l s =
      let past : nat_le (length (comma_joined us)) limit ≡ false = grind (arith, l) in
      rw past (refl, ran_of_step (parts_ids (length us)) (parts_words (length us) (list_units us)) s h (ids_fit limit k us q) (words_fit_long limit k us q l))

  pub list_stops : {R : Type 0} (name : R → ℕ) (f : MethodFault) → IsLong f limit (length (comma_joined us)) → StoreStep a b (full_part f) 2
      (k + made_words limit (comma_joined us) + 1) → NeverSlots (full_part f) → GivesText {R = R} name a b (Err (stop_of f)) (list_string limit us)
  list_stops name (method.Store f) l s n = list_cut f s n
  list_stops name (method.RangeError c) l s n = list_thrown name l.0 s
