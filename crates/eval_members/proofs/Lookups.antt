-- Properties that are read: the key is interned, and then the object gives its value.
use Rattle.eval_members.specs.Parts.{lacking, keyed}
use Rattle.std.proofs.Common.{arith, ◌≡◌, ℕ, zero, suc, ◌<◌, Option, Some, None, List, [], ◌∷◌, length, refl, ap, sym, ◌∙◌, subst, Result, Ok, Err, slice_index_or}
use Rattle.std.specs.Prelude.{unwrap_or, bytes_eq}
use Rattle.std.specs.Option.{option_map}
use Rattle.std.proofs.lemmas.List.{append-nil}
use Rattle.js_store.specs.State.{State, NamesUnits, Grows, IsKnown, text as units_of}
use Rattle.js_store.specs.Faults.{StoreStep}
use Rattle.js_store.specs.declared.faults.StoreFault.TheVariants.{Memory}
use Rattle.js_store.proofs.Laws.{known_has, text_still, grows_refl, step_refl}
use Rattle.js_texts.specs.Texts.{AllKnown, known_texts as texts_seen}
use Rattle.js_item.specs.Contents.{Content, Fields, undefined}
use Rattle.js_item.specs.declared.item.Item.{Item}
use Rattle.js_item.specs.declared.item.Item.TheVariants as item
use Rattle.js_item.specs.Views.{content_of}
use Rattle.js_item.specs.Fine.{strings_of, FineFields, IsFine}
use Rattle.js_item.specs.Puts.{value_by, names_key}
use Rattle.js_item.specs.Seen.{Val, says, content_mapped, fields_mapped, seen}
use Rattle.js_item.proofs.Still.{fine_by, fine_of_still}
use Rattle.js_item.proofs.Values.{mapped_still, fields_mapped_still, mapped_value}
use Rattle.eval_values.specs.declared.value.Stop.{Stop}
use Rattle.eval_values.specs.declared.value.Stop.TheVariants.{Store}
use Rattle.eval_values.specs.Outcome.{Out, gave, ended, needing, texts_of, ledger_of}
use Rattle.eval_values.specs.Need.{nothing, reads}
use Rattle.eval_values.specs.Conversions.{to_string, string_units}
use Rattle.eval_values.specs.Ran.{MeetsLedger}
use Rattle.eval_values.specs.Does.{GivesValue, GivesText}
use Rattle.eval_values.proofs.Copied.{seen_copy, fine_copy}
use Rattle.eval_values.proofs.Compose.{did_before, cut_of_memory, ran_free, ran_of_step, ran_of_text}
use Rattle.eval_values.proofs.TextArguments.{text_then, text_converts, text_fails}
use Rattle.eval_members.specs.Properties.{key_out, own, got, property, plain_property}

-- out of memory of the evaluator's own
pub no_memory : {F R : Type 0} (name : R → ℕ) (a b : State F) (o : Out Val) → StoreStep a b None 0 0 → b.history ≡ a.history → GivesValue {R = R} name a b (Err (Store Memory)) o
no_memory name a b o s h = cut_of_memory (ledger_of o) s h (omega arith) (omega arith)

module _ {F R : Type 0} (s : State F) (name : R → ℕ) where
  -- each of known strings has a number
  texts_have : (rs : List R) → AllKnown s name rs → (u : List ℕ) (k : ℕ) → k < length (texts_seen s name rs) → slice_index_or (texts_seen s name rs) k u ≡ u → (n : ℕ) × NamesUnits s n u
  texts_have [] h u k l e = absurd (omega (arith, l))
  texts_have (r ∷ rs) h u zero l e = (name r, known_has s (name r) h.0 ∙ ap Some e)
  texts_have (r ∷ rs) h u (suc k) l e = texts_have rs h.1 u k (omega (arith, l)) e

  ran_texts : (rs : List R) → AllKnown s name rs → MeetsLedger s s (record { interned = []; texts = texts_seen s name rs; ids = 0; words = 0 })
  ran_texts rs h = record {
    grows = grows_refl s;
    history = (ran_free s).history;
    texts = λ u c. texts_have rs h u c.0 c.1 c.2;
    within_ids = omega arith;
    within_words = omega arith;
  }

  -- a value gives its strings, which are known, and needs nothing
  pub ran_seen : (v : Item R) → IsFine s name v → MeetsLedger s s (record { interned = []; texts = texts_of (seen s name v); ids = 0; words = 0 })
  ran_seen item.Undefined h = ran_free s
  ran_seen item.Null h = ran_free s
  ran_seen (item.Bool b) h = ran_free s
  ran_seen (item.Number n) h = ran_free s
  ran_seen (item.Text r) h = ran_of_text 0 0 (units_of s (name r)) (name r) (known_has s (name r) h) (step_refl s) refl (omega arith) (omega arith)
  ran_seen (item.Symbol r) h = ran_free s
  ran_seen (item.List v) h = ran_texts v.items h
  ran_seen (item.Object fs) h = ran_free s

-- the value of the member of a key, which is looked up at a and copied at b
module _ {F R : Type 0} (name : R → ℕ) (a b : State F) (s : StoreStep a b None 0 0) (h : b.history ≡ a.history) (fs : Fields R) (fine : FineFields (strings_of a) name fs) (key : R) where
  own_is : (o : Option (Content R)) → value_by (names_key a name key) fs ≡ o → own (units_of a (name key)) (fields_mapped (says a name) fs) ≡ option_map (content_mapped (says a name)) o
  own_is o e = sym (mapped_value (says a name) (λ k. bytes_eq k (units_of a (name key))) fs) ∙ ap (option_map (content_mapped (says a name))) e

  module _ (v w : Item R) (e : value_by (names_key a name key) fs ≡ Some (content_of v)) (c : content_of w ≡ content_of v) where
    fine_there : IsFine a name v
    fine_there = fine_by (strings_of a) name (names_key a name key) fs (content_of v) fine e

    pub fine_given : IsFine b name w
    fine_given = fine_copy b name w v c (fine_of_still a b s.grows name (content_of v) fine_there)

    same_given : seen b name w ≡ seen a name v
    same_given = ap (content_mapped (says b name)) c ∙ mapped_still a b name s.grows (content_of v) fine_there

    value_given : GivesValue name a b (Ok w) (needing nothing (seen a name v))
    value_given = did_before a b b (λ o x. seen o name x) (λ o x. IsFine o name x) (Ok w) (needing nothing (seen a name v)) s h
        (subst (λ (q : Val). GivesValue name b b (Ok w) (needing nothing q)) same_given (record { is = refl; good = fine_given; ran = ran_seen b name w fine_given }))

    pub got_given : (at : ℕ) → GivesValue name a b (Ok w) (got at (units_of a (name key)) (own (units_of a (name key)) (fields_mapped (says a name) fs)))
    got_given at = subst (λ (q : Option Val). GivesValue name a b (Ok w) (got at (units_of a (name key)) q)) (sym (own_is (Some (content_of v)) e)) value_given

    pub plain_given : GivesValue name a b (Ok w) (needing nothing (unwrap_or (own (units_of a (name key)) (fields_mapped (says a name) fs)) undefined))
    plain_given = subst (λ (q : Option Val). GivesValue name a b (Ok w) (needing nothing (unwrap_or q undefined))) (sym (own_is (Some (content_of v)) e)) value_given

  pub plain_none : value_by (names_key a name key) fs ≡ None → GivesValue {R = R} name a b (Ok item.Undefined)
      (needing nothing (unwrap_or (own (units_of a (name key)) (fields_mapped (says a name) fs)) undefined))
  plain_none e = subst (λ (q : Option Val). GivesValue {R = R} name a b (Ok item.Undefined) (needing nothing (unwrap_or q undefined))) (sym (own_is None e))
      (record { is = refl; good = tt; ran = ran_of_step 0 0 s h (omega arith) (omega arith) })

  -- none was found
  pub got_none : (c : State F) (r : Result (Item R) Stop) (at : ℕ) → IsKnown a (name key) → value_by (names_key a name key) fs ≡ None →
      GivesValue name b c r (lacking at (units_of b (name key))) → GivesValue name a c r
      (got at (units_of a (name key)) (own (units_of a (name key)) (fields_mapped (says a name) fs)))
  got_none c r at k e d = subst (λ (q : Option Val). GivesValue name a c r (got at (units_of a (name key)) q)) (sym (own_is None e))
      (did_before a b c (λ o x. seen o name x) (λ o x. IsFine o name x) r (lacking at (units_of a (name key))) s h
      (subst (λ (q : List ℕ). GivesValue name b c r (lacking at q)) (text_still s.grows (name key) k) d))

-- a key that was interned, and then the value
module _ {F R : Type 0} (name : R → ℕ) (a b c : State F) (g : Grows a b) (fs : Fields R) (fine : FineFields
    (strings_of a) name fs) (k : R) (u : List ℕ) (r : Result (Item R) Stop) (d : GivesText name a b (Ok k) (key_out u)) where
  pub property_does : (at : ℕ) → GivesValue name b c r (got at (units_of b (name k))
      (own (units_of b (name k)) (fields_mapped (says b name) fs))) → GivesValue name a c r (property at u (fields_mapped (says a name) fs))
  property_does at e = text_then name a b c k r (key_out u) (λ x. got at x (own x (fields_mapped (says a name) fs))) d
      (subst (λ (q : Fields (List ℕ)). GivesValue name b c r (got at (units_of b (name k)) (own (units_of b (name k)) q))) (fields_mapped_still a b name g fs fine) e)

  pub plain_does : GivesValue name b c r (needing nothing (unwrap_or (own (units_of b (name k)) (fields_mapped (says b name) fs))
      undefined)) → GivesValue name a c r (plain_property u (fields_mapped (says a name) fs))
  plain_does e = text_then name a b c k r (key_out u) (λ x. needing nothing (unwrap_or (own x (fields_mapped (says a name) fs)) undefined)) d
      (subst (λ (q : Fields (List ℕ)). GivesValue name b c r (needing nothing (unwrap_or (own (units_of b (name k)) q) undefined))) (fields_mapped_still a b name g fs fine) e)

-- an index that became a string, and then the property of that key
pub keyed_does : {F R : Type 0} (name : R → ℕ) (a b c : State F) → Grows a b → (fs : Fields R) → FineFields
    (strings_of a) name fs → (at : ℕ) (v : Val) (w : R) (r : Result (Item R) Stop) → GivesText name a b (Ok w) (to_string a.limit v) →
    GivesValue name b c r (property at (units_of b (name w)) (fields_mapped (says b name) fs)) → GivesValue name a c r
    (keyed at a.limit (fields_mapped (says a name) fs) v)
keyed_does name a b c g fs fine at v w r d e = text_converts name (reads (string_units v)) a b c w r (to_string a.limit v) (λ k. property at k (fields_mapped (says a name) fs)) d
    (subst (λ (q : Fields (List ℕ)). GivesValue name b c r (property at (units_of b (name w)) q)) (fields_mapped_still a b name g fs fine) e)

pub keyed_fails : {F R : Type 0} (name : R → ℕ) (a b : State F) (fs : Fields (List ℕ)) (at : ℕ) (v : Val) (n : Stop) → GivesText {R = R}
    name a b (Err n) (to_string a.limit v) → GivesValue {R = R} name a b (Err n) (keyed at a.limit fs v)
keyed_fails name a b fs at v n d = text_fails name (reads (string_units v)) a b n (to_string a.limit v) (λ k. property at k fs) d

-- a value in its place, and then a copy of it
module _ {F R : Type 0} (name : R → ℕ) (a b : State F) (v : Item R) where
  pub copied_does : (w : Item R) (o : Out Val) → content_of w ≡ content_of v → GivesValue name a b (Ok v) o → GivesValue name a b (Ok w) o
  copied_does w (gave x l) c d = record { is = seen_copy b name w v c ∙ d.is; good = fine_copy b name w v c d.good; ran = d.ran }
  copied_does w (ended e l) c d = absurd d

  pub copied_stops : (o : Out Val) → GivesValue name a b (Ok v) o → GivesValue {R = R} name a b (Err (Store Memory)) o
  copied_stops (gave x l) d = record {
    grows = d.ran.grows;
    honest = tt;
    history = record { done = l.interned; left = []; split = sym (append-nil l.interned); interns = d.ran.history; next = tt };
    within_ids = let e = d.ran.within_ids in omega arith;
    within_words = let e = d.ran.within_words in omega arith;
  }
  copied_stops (ended e l) d = absurd d
