-- Symbols: their keys as values, and `String` of one.
use Rattle.eval_builtins.specs.Parts.{shown_out, registered}
use Rattle.eval_values.specs.Within.{gives}
use Rattle.eval_values.specs.RowNames.{row_ids, row_words}
use Rattle.std.proofs.Common.{arith, Bool, ◌≡◌, ℕ, ◌+◌, ◌≤◌, List, [], ◌∷◌, ◌++◌, length, length-append, refl, ap, sym, ◌∙◌, subst, true, nat_le, Some, None, Result, Ok, Err}
use Rattle.std.specs.Prelude.{codes, Contains}
use Rattle.std.proofs.lemmas.List.{append-nil}
use Rattle.std.proofs.lemmas.List.Elements.{Contains-append_right}
use Rattle.js_store.specs.State.{State, NamesUnits, IsKnown, Interned, text as units_of}
use Rattle.js_store.specs.Faults.{StoreStep, SlotsShut, NeverSlots}
use Rattle.js_texts.specs.Answers.{full_part, IsStoreFault}
use Rattle.js_texts.specs.declared.faults.MethodFault.{MethodFault}
use Rattle.js_texts.specs.declared.faults.MethodFault.TheVariants as method
use Rattle.js_store.specs.Rows.{intern_words}
use Rattle.js_store.specs.declared.faults.StoreFault.{StoreFault}
use Rattle.js_store.specs.declared.faults.StoreFault.TheVariants.{Full, Memory}
use Rattle.js_store.specs.declared.faults.FullReport.TheVariants.{Ids, Words, Slots}
use Rattle.js_store.proofs.Laws.{has_text, has_known, known_has, step_refl, text_still, settle_words_most}
use Rattle.js_item.specs.declared.item.Item.{Item}
use Rattle.js_item.specs.declared.item.Item.TheVariants.{Text, Symbol}
use Rattle.eval_values.specs.declared.value.Kind.TheVariants.{TypeError}
use Rattle.eval_values.specs.declared.value.Stop.{Stop}
use Rattle.eval_values.specs.declared.value.Stop.TheVariants.{Threw, Store}
use Rattle.js_item.specs.Contents.{text, symbol}
use Rattle.eval_values.specs.Outcome.{throwing}
use Rattle.eval_values.specs.Need.{Row, reads, ids_in, words_in}
use Rattle.eval_values.specs.Conversions.{to_string, text_units, string_units}
use Rattle.js_item.specs.Seen.{seen}
use Rattle.js_item.specs.Fine.{IsFine}
use Rattle.eval_values.specs.Stops.{stop_of}
use Rattle.eval_values.specs.Ran.{NextShut}
use Rattle.eval_values.specs.Does.{GivesValue, GivesText}
use Rattle.eval_values.proofs.Compose.{honest_full, ran_of_step, ran_of_text, did_before, cut_of_full, full_same}
use Rattle.eval_builtins.specs.Symbols.{symbol_for}
use Rattle.eval_builtins.specs.Parts.{shown_symbol}
use Rattle.eval_values.proofs.TextArguments.{text_converts, text_fails}

pub shown_length : (k : List ℕ) → length (shown_symbol k) ≡ length k + 8
shown_length k = omega (arith, length-append k (codes ")"))

module _ {F R : Type 0} (name : R → ℕ) where
  -- a symbol's key as a value
  pub key_given : (s : State F) (ids words : ℕ) (r : R) → IsKnown s (name r) → GivesValue name s s (Ok (Text r)) (gives (text (units_of s (name r))) ids words)
  key_given s ids words r k = record { is = refl; good = k; ran = ran_of_text ids words (units_of s (name r)) (name r) (known_has s (name r) k) (step_refl s) refl (omega arith) (omega arith) }

  pub no_key : (s : State F) (row : Row) → GivesValue {R = R} name s s (Err (Threw TypeError)) (throwing row TypeError)
  no_key s row = (refl, ran_of_step (ids_in row) (words_in row) (step_refl s) refl (omega arith) (omega arith))

  -- the key was interned
  one_more : (b : State F) (h : List (List ℕ × ℕ)) (k : List ℕ) (n : ℕ) → b.history ≡ h ++ (k, n) ∷ [] → Interned b k n
  one_more b h k n e = subst (λ (q : List (List ℕ × ℕ)). Contains q (k, n)) (sym e) (Contains-append_right h ((k, n) ∷ []) (k, n) (0, omega arith, refl))

  pub registered_given : (a b : State F) (t : ℕ) (k : List ℕ) (settled : Bool) (r : R) → NamesUnits b (name r) k → StoreStep a b None 1
      (intern_words settled (length k)) → b.history ≡ a.history ++ (k, name r) ∷ [] → length k ≤ t + 40 → GivesValue name a b (Ok (Symbol r)) (registered t k)
  registered_given a b t k settled r z s h l =
      let e : units_of b (name r) ≡ k = has_text b (name r) k z in
      record {
        is = ap symbol e;
        good = (has_known b (name r) k z, subst (λ (q : List ℕ). Interned b q (name r)) (sym e) (one_more b a.history k (name r) h));
        ran = record {
          grows = s.grows;
          history = record { pairs = (k, name r) ∷ []; grown = h; same = refl };
          texts = λ u c. absurd (omega (arith, c.1));
          within_ids = let w = s.within_ids in omega arith;
          within_words = let w = s.within_words in let m = settle_words_most settled (length k) in omega arith;
        };
      }

  next_shut : (b : State F) (f : StoreFault) (k : List ℕ) → SlotsShut b (Some f) k → NextShut b f (k ∷ [])
  next_shut b (Full (Slots n)) k h = h
  next_shut b (Full (Ids x y z)) k h = tt
  next_shut b (Full (Words x y z)) k h = tt
  next_shut b Memory k h = tt

  -- the key was not interned: on a full string table it is shut
  pub registered_cut : (a b : State F) (t : ℕ) (k : List ℕ) (settled : Bool) (f : StoreFault) → StoreStep a b (Some f) 1
      (intern_words settled (length k)) → b.history ≡ a.history → SlotsShut b (Some f) k → length k ≤ t + 40 → GivesValue {R = R} name a b
      (Err (Store f)) (registered t k)
  registered_cut a b t k settled f s h n l = record {
    grows = s.grows;
    honest = honest_full b f s.honest;
    history = record { done = []; left = k ∷ []; split = refl; interns = record { pairs = []; grown = h ∙ sym (append-nil a.history); same = refl }; next = next_shut b f k n };
    within_ids = let w = s.within_ids in omega arith;
    within_words = let w = s.within_words in let m = settle_words_most settled (length k) in omega arith;
  }

  -- a key as a string, and then its symbol
  pub symbol_does : (a b c : State F) (v : Item R) (w : R) (r : Result (Item R) Stop) → length (units_of b (name w)) ≤ text_units
      (seen a name v) + 40 → GivesText name a b (Ok w) (to_string a.limit (seen a name v)) → ((t : ℕ) → length (units_of b (name w)) ≤ t + 40
      → GivesValue name b c r (registered t (units_of b (name w)))) → GivesValue name a c r (symbol_for a.limit (seen a name v))
  symbol_does a b c v w r l d f = text_converts name (reads (string_units (seen a name v))) a b c w r (to_string a.limit (seen a name v))
      (λ k. registered (text_units (seen a name v)) k) d (f (text_units (seen a name v)) l)

  pub symbol_ends : (a b : State F) (v : Item R) (n : Stop) → GivesText name a b (Err n) (to_string a.limit (seen a name v)) → GivesValue name a b (Err n) (symbol_for a.limit (seen a name v))
  symbol_ends a b v n d = text_fails name (reads (string_units (seen a name v))) a b n (to_string a.limit (seen a name v)) (λ k. registered (text_units (seen a name v)) k) d

  -- the length of a key that was told, and then what is shown
  pub shown_after : (a b c : State F) (s : R) (r : Result (Item R) Stop) → StoreStep a b None 0 0 → b.history ≡ a.history → IsKnown a
      (name s) → GivesValue name b c r (shown_out b.limit (units_of b (name s))) → GivesValue name a c r (shown_out a.limit (units_of a (name s)))
  shown_after a b c s r x g k z =
      let one = subst (λ (q : ℕ). GivesValue name b c r (shown_out q (units_of b (name s)))) x.grows.limit z in
      let two = subst (λ (q : List ℕ). GivesValue name b c r (shown_out a.limit q)) (text_still x.grows (name s) k) one in
      did_before a b c (λ o v. seen o name v) (λ o v. IsFine o name v) r (shown_out a.limit (units_of a (name s))) x g two

  -- what is shown of a symbol, where it isn't too long and the store refused
  pub shown_stops : (a b : State F) {i k : ℕ} (u : List ℕ) (f : MethodFault) → length (shown_symbol u) ≤ a.limit → IsStoreFault f →
      StoreStep a b (full_part f) i k → b.history ≡ a.history → NeverSlots (full_part f) → i ≤ row_ids → k ≤ row_words
      (length (shown_symbol u)) → GivesValue {R = R} name a b (Err (stop_of f)) (shown_out a.limit u)
  shown_stops a b u (method.Store f) l e s h n p q =
      let fits : nat_le (length (shown_symbol u)) a.limit ≡ true = grind (arith, l) in
      let s' = rw (full_same f) at s in
      let n' = rw (full_same f) at n in
      rw fits (cut_of_full f _ s' h n' p q)
  shown_stops a b u (method.RangeError c) l e s h n p q = absurd e
