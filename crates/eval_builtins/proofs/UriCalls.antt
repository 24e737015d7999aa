-- What the URI handling functions give, and how they stop.
use Rattle.eval_values.specs.Within.{gives, throws}
use Rattle.eval_values.specs.RowNames.{row_ids, row_words}
use Rattle.std.proofs.Common.{arith, ◌≡◌, ℕ, ◌+◌, ◌<◌, ◌≤◌, List, length, refl, subst, Bool, true, false, None, Result, Ok, Err}
use Rattle.std.specs.Prelude.{nat_le, nat_lt, if◌then◌else◌}
use Rattle.js_store.specs.State.{State, text}
use Rattle.js_store.specs.Faults.{StoreStep, NeverSlots}
use Rattle.js_store.specs.Rows.{wide_words, flat_words, settle_words}
use Rattle.js_store.proofs.Laws.{flat_words_most}
use Rattle.js_store.specs.declared.faults.StoreFault.{StoreFault}
use Rattle.js_store.specs.declared.faults.StoreFault.TheVariants.{Full, Memory}
use Rattle.js_texts.specs.Texts.{full_only}
use Rattle.js_texts.specs.Use.{made_words, settling}
use Rattle.js_uri.specs.Outcome.{UriOutcome}
use Rattle.js_uri.specs.Answers.{HasUriOutcome, IsUriWithin, IsThrown, uri_full_part, outcome_words}
use Rattle.js_uri.specs.declared.faults.UriFault.{UriFault}
use Rattle.js_uri.specs.declared.faults.UriFault.TheVariants as fault
use Rattle.js_item.specs.declared.item.Item.{Item}
use Rattle.js_item.specs.declared.item.Item.TheVariants.{Text}
use Rattle.eval_values.specs.declared.value.Stop.{Stop}
use Rattle.eval_values.specs.Outcome.{ledger_of}
use Rattle.js_item.specs.Contents.{text as text_value}
use Rattle.eval_values.specs.declared.value.Kind.TheVariants.{RangeError}
use Rattle.eval_values.specs.Need.{reads, ids_in, words_in}
use Rattle.eval_values.specs.Conversions.{to_string, text_units, string_units}
use Rattle.eval_values.specs.Limited.{limited}
use Rattle.eval_values.specs.Ran.{EndsInPart}
use Rattle.js_item.specs.Seen.{seen}
use Rattle.eval_values.specs.Does.{GivesValue, GivesText}
use Rattle.eval_values.proofs.Compose.{cut_of_full, ran_of_step}
use Rattle.eval_values.proofs.Limited.{within_given, within_thrown}
use Rattle.eval_values.proofs.TextArguments.{text_converts, text_fails}
use Rattle.eval_builtins.specs.Uris.{uri_value, uri_call}
use Rattle.eval_builtins.specs.UriFunctions.{uri_stop}

-- nothing is made of a list that is too long
made_none : (limit : ℕ) (us : List ℕ) → limit < length us → made_words limit us ≡ 0
made_none limit us h = let e : nat_lt limit (length us) ≡ true = grind (arith, h) in rw e refl

made_most : (limit : ℕ) (us : List ℕ) → made_words limit us ≤ wide_words (length us)
made_most limit us = go (nat_lt limit (length us))
  where
    go : (v : Bool) → (if v then 0 else flat_words us) ≤ wide_words (length us)
    go true = omega arith
    go false = flat_words_most us

module _ {F : Type 0} {a b : State F} (limit t : ℕ) where
  -- the store refused before the list was there
  uri_cut : (us : List ℕ) (f : StoreFault) {k : ℕ} → StoreStep a b (full_only f) 1 k → b.history ≡ a.history → NeverSlots (full_only f) → k
      ≤ wide_words t + made_words limit us → EndsInPart a b f (ledger_of (limited limit t us))
  uri_cut us f {k = k} s h n q = go (nat_le (length us) limit) refl
    where
      go : (v : Bool) → nat_le (length us) limit ≡ v
          → EndsInPart a b f (ledger_of (if v then gives (text_value us) row_ids (row_words (t + length us)) else throws RangeError row_ids (row_words (t + 0))))
      go true e = cut_of_full f _ s h n (omega arith) (omega (arith, q, made_most limit us))
      go false e = cut_of_full f _ s h n (omega arith) (let l : limit < length us = grind (arith, e) in omega (arith, q, made_none limit us l))

module _ {F R : Type 0} (name : R → ℕ) (a b : State F) (limit t : ℕ) where
  pub uri_given : (o : UriOutcome) (r : R) {k : ℕ} → HasUriOutcome b (name r) o → IsUriWithin limit o → StoreStep a b None 1 k → b.history ≡
      a.history → k ≤ wide_words t + outcome_words limit o → GivesValue name a b (Ok (Text r)) (uri_value limit t o)
  uri_given (Ok us) r {k = k} z w s h q = within_given name a b {k = k} limit row_ids (λ n. row_words (t + n)) us r z w s h (omega arith) (omega (arith, q, made_most limit us))
  uri_given (Err at) r z w s h q = absurd z

  pub uri_stops : (o : UriOutcome) (f : UriFault) {k : ℕ} → IsThrown f limit o → StoreStep a b (uri_full_part f) 1 k → b.history ≡ a.history
      → NeverSlots (uri_full_part f) → k ≤ wide_words t + outcome_words limit o → GivesValue {R = R} name a b (Err (uri_stop f)) (uri_value limit t o)
  uri_stops (Ok us) (fault.Malformed at) w s h n q = absurd w
  uri_stops (Err p) (fault.Malformed at) w s h n q = (refl, ran_of_step (ids_in (reads t)) (words_in (reads t)) s h (omega arith) (omega (arith, q)))
  uri_stops (Ok us) (fault.RangeError c) {k = k} w s h n q = within_thrown name a b {k = k} limit row_ids (λ n. row_words (t + n)) us w.0 s h (omega arith) (omega (arith, q, made_none limit us w.0))
  uri_stops (Err p) (fault.RangeError c) w s h n q = absurd w
  uri_stops (Ok us) (fault.Store (Full r)) w s h n q = uri_cut limit t us (Full r) s h n q
  uri_stops (Ok us) (fault.Store Memory) w s h n q = uri_cut limit t us Memory s h n q
  uri_stops (Err p) (fault.Store (Full r)) w s h n q = cut_of_full (Full r) _ s h n (omega arith) (omega (arith, q))
  uri_stops (Err p) (fault.Store Memory) w s h n q = cut_of_full Memory _ s h n (omega arith) (omega (arith, q))

module _ {F R : Type 0} (name : R → ℕ) (f : List ℕ → UriOutcome) where
  -- a value as a string, and then what the function makes of it
  pub uri_does : (a b c : State F) (v : Item R) (s : R) (r : Result (Item R) Stop) → b.limit ≡ a.limit → settle_words (b.settled (name s))
      (length (text b (name s))) ≤ wide_words (text_units (seen a name v)) → GivesText name a b (Ok s)
      (to_string a.limit (seen a name v)) → ((t : ℕ) → settling b (name s) ≤ wide_words t → GivesValue name b c r
      (uri_value b.limit t (f (text b (name s))))) → GivesValue name a c r (uri_call f a.limit (seen a name v))
  uri_does a b c v s r e l d g =
      let t = text_units (seen a name v) in
      text_converts name (reads (string_units (seen a name v))) a b c s r (to_string a.limit (seen a name v)) (λ us. uri_value a.limit t (f us)) d
      (subst (λ (m : ℕ). GivesValue name b c r (uri_value m t (f (text b (name s))))) e (g t l))

  pub uri_ends : (a b : State F) (v : Item R) (n : Stop) → GivesText name a b (Err n) (to_string a.limit (seen a name v)) → GivesValue name a b (Err n) (uri_call f a.limit (seen a name v))
  uri_ends a b v n d = text_fails name (reads (string_units (seen a name v))) a b n (to_string a.limit (seen a name v)) (λ us. uri_value a.limit (text_units (seen a name v)) (f us)) d
