-- The parts of a string.
use Rattle.eval_values.specs.RowNames.{parts_ids, parts_words}
use Rattle.std.proofs.Common.{arith, ◌≡◌, ℕ, zero, suc, ◌+◌, ◌*◌, ◌<◌, ◌≤◌, List, [], ◌∷◌, length, ap, ◌∙◌, Bool, true, false, Option, Some, None, nat_lt}
use Rattle.std.proofs.Common.{if◌then◌else◌, slice_index_or, Result, Ok, Err, refl, sym, subst, Vec, Global}
use Rattle.std.proofs.lemmas.List.{append-nil}
use Rattle.js_store.specs.State.{State, NamesUnits, Grows, IsKnown, text as units_of}
use Rattle.js_store.specs.Faults.{StoreStep, NeverSlots}
use Rattle.js_store.specs.Rows.{copy_words, settle_words, wide_words}
use Rattle.js_store.specs.declared.faults.StoreFault.{StoreFault}
use Rattle.js_texts.specs.declared.faults.MethodFault.{MethodFault}
use Rattle.js_texts.specs.declared.faults.MethodFault.TheVariants.{Store as MethodStore}
use Rattle.js_texts.specs.declared.faults.MethodFault.TheVariants as method
use Rattle.js_texts.specs.Answers.{full_part, IsStoreFault}
use Rattle.js_store.proofs.Laws.{known_has, text_still}
use Rattle.js_texts.specs.Texts.{known_texts, AllKnown}
use Rattle.js_replace.specs.Parts.{parts}
use Rattle.js_replace.specs.Use.{copies_words}
use Rattle.js_item.specs.declared.item.Item.{Item}
use Rattle.js_item.specs.declared.item.Item.TheVariants as value
use Rattle.eval_values.specs.declared.value.Stop.{Stop}
use Rattle.eval_values.specs.Stops.{stop_of}
use Rattle.js_item.specs.Seen.{Val}
use Rattle.js_item.specs.Contents.{list}
use Rattle.eval_values.specs.Outcome.{ledger_of}
use Rattle.eval_values.specs.Need.{reads, some_parts}
use Rattle.eval_values.specs.Conversions.{list_units, to_string, all_units, first_text_units}
use Rattle.eval_values.specs.Arguments.{first_of, is_undefined}
use Rattle.eval_members.specs.Splitting.{split_into, split_most}
use Rattle.eval_values.specs.Ran.{MeetsLedger, EndsInPart}
use Rattle.eval_values.specs.Does.{GivesValue, GivesText}
use Rattle.eval_values.proofs.Compose.{cut_of_full, full_same}
use Rattle.eval_values.proofs.TextArguments.{text_converts}

-- what copies and settling take, four times over
copy_most : (n : ℕ) → 4 * copy_words n ≤ n + 12
copy_most n = elim (nat_lt n 13) as (λ v. 4 * (if v then 3 else wide_words n) ≤ n + 12) [
  | true ↦ omega arith
  | false ↦ omega arith
]

copies_most : (us : List (List ℕ)) → 4 * copies_words us ≤ list_units us + 12 * length us
copies_most [] = omega arith
copies_most (u ∷ us) = omega (arith, copy_most (length u), copies_most us)

settle_most_of : (v : Bool) (n : ℕ) → 4 * settle_words v n ≤ n + 3
settle_most_of true n = omega arith
settle_most_of false n = omega arith

parts_most : (p : ℕ) → p ≤ some_parts p
parts_most zero = omega arith
parts_most (suc p) = omega arith

-- each of known strings has a number
texts_have : {F R : Type 0} (b : State F) (name : R → ℕ) (rs : List R) → AllKnown b name rs → (u : List ℕ) (k : ℕ) → k < length
    (known_texts b name rs) → slice_index_or (known_texts b name rs) k u ≡ u → (n : ℕ) × NamesUnits b n u
texts_have b name [] h u k l e = absurd (omega (arith, l))
texts_have b name (r ∷ rs) h u zero l e = (name r, known_has b (name r) h.0 ∙ ap Some e)
texts_have b name (r ∷ rs) h u (suc k) l e = texts_have b name rs h.1 u k (omega (arith, l)) e

-- a chain of calls that gave several strings
pub ran_of_texts : {F R : Type 0} {a b : State F} {i k : ℕ} (name : R → ℕ) (rs : List R) (us : List (List ℕ)) (ids words : ℕ) → known_texts
    b name rs ≡ us → AllKnown b name rs → StoreStep a b None i k → b.history ≡ a.history → i ≤ ids → k ≤ words → MeetsLedger a b
    (record { interned = []; texts = us; ids = ids; words = words })
ran_of_texts {a = a} {b = b} name rs us ids words e h s g p q = record {
  grows = s.grows;
  history = record { pairs = []; grown = g ∙ sym (append-nil a.history); same = refl };
  texts = λ u c. texts_have b name rs h u c.0 (rw e c.1) (rw e c.2);
  within_ids = let d = s.within_ids in omega arith;
  within_words = let d = s.within_words in omega arith;
}

-- the need of a `split` with these parts covers what it used
ids_fit : (us : List (List ℕ)) (i : ℕ) → i ≤ length us → i ≤ parts_ids (length us)
ids_fit us i p = omega (arith, p, parts_most (length us))

words_fit : (us : List (List ℕ)) (t k : ℕ) → 4 * k ≤ t + 46 + list_units us + 12 * length us → k ≤ parts_words (length us) (t + list_units us)
words_fit us t k q = omega (arith, q, parts_most (length us))

pub split_given : {F R : Type 0} {a b : State F} (name : R → ℕ) (t : ℕ) (u : List ℕ) (sep : Option (List ℕ)) (most i k : ℕ) → b.history ≡
    a.history → i ≤ length (parts u sep most) → 4 * k ≤ t + 46 + list_units (parts u sep most) + 12 * length
    (parts u sep most) → (v : Vec R Global) → known_texts b name v.items ≡ parts u sep most → AllKnown b name v.items → StoreStep a b None i k
    → GivesValue name a b (Ok (value.List v)) (split_into t u most sep)
split_given name t u sep most i k g p q v e h s = record {
  is = ap list e;
  good = h;
  ran = ran_of_texts name v.items (parts u sep most) (parts_ids (length (parts u sep most)))
      (parts_words (length (parts u sep most)) (t + list_units (parts u sep most))) e h s g (ids_fit (parts u sep most) i p) (words_fit (parts u sep most) t k q);
}

pub split_cut : {F : Type 0} {a b : State F} (t : ℕ) (u : List ℕ) (sep : Option (List ℕ)) (most i k : ℕ) → b.history ≡ a.history → i ≤
    length (parts u sep most) → 4 * k ≤ t + 46 + list_units (parts u sep most) + 12 * length (parts u sep most) → (f : StoreFault) → StoreStep
    a b (full_part (MethodStore f)) i k → NeverSlots (full_part (MethodStore f)) → EndsInPart a b f (ledger_of (split_into t u most sep))
split_cut t u sep most i k g p q f s n =
    let s' = rw (full_same f) at s in
    let n' = rw (full_same f) at n in
    cut_of_full f _ s' g n' (ids_fit (parts u sep most) i p) (words_fit (parts u sep most) t k q)

pub split_stops : {F R : Type 0} {a b : State F} (name : R → ℕ) (t : ℕ) (u : List ℕ) (sep : Option (List ℕ)) (most i k : ℕ) → b.history ≡
    a.history → i ≤ length (parts u sep most) → 4 * k ≤ t + 46 + list_units (parts u sep most) + 12 * length
    (parts u sep most) → (f : MethodFault) → IsStoreFault f → StoreStep a b (full_part f) i k → NeverSlots (full_part f) → GivesValue name a b
    (Err (stop_of f)) (split_into t u most sep)
split_stops name t u sep most i k g p q (method.Store f) e s n = split_cut t u sep most i k g p q f s n
split_stops name t u sep most i k g p q (method.RangeError c) e s n = absurd e

-- the settling of both strings and the copies of the parts
pub split_use : (t m n : ℕ) (v w : Bool) (us : List (List ℕ)) → m + n ≤ t + 40 → 4 * (settle_words v m + settle_words w n + copies_words us) ≤ t + 46 + list_units us + 12 * length us
split_use t m n v w us h = omega (arith, h, settle_most_of v m, settle_most_of w n, copies_most us)

module _ {F R : Type 0} (name : R → ℕ) (a b c : State F) (s w : R) (most : ℕ) (vs : List Val) (r : Result (Item R) Stop) (g : Grows a b) (k : IsKnown a (name s)) where
  -- a separator, and then the parts
  pub split_does : is_undefined (first_of vs) ≡ false → length (units_of b (name w)) ≤ first_text_units vs + 40 → GivesText name a b (Ok w)
      (to_string a.limit (first_of vs)) → ((t : ℕ) → length (units_of b (name s)) + length (units_of b (name w)) ≤ t + 40 → GivesValue name b
      c r (split_into t (units_of b (name s)) most (Some (units_of b (name w))))) → GivesValue name a c r (split_most a.limit (units_of a (name s)) vs most)
  split_does e h x d =
      let same : units_of b (name s) ≡ units_of a (name s) = text_still g (name s) k in
      let t : ℕ = length (units_of a (name s)) + first_text_units vs in
      let z : GivesValue name b c r (split_into t (units_of b (name s)) most (Some (units_of b (name w)))) = d t (rw same (omega (arith, h))) in
      rw e (text_converts name (reads (length (units_of a (name s)) + all_units vs)) a b c w r (to_string a.limit (first_of vs)) (λ x. split_into t (units_of a (name s)) most (Some x)) x
      (subst (λ (q : List ℕ). GivesValue name b c r (split_into t q most (Some (units_of b (name w))))) same z))
