-- How long the JSON text of an object is, what reading its strings takes, and its keys as an array.
use Rattle.eval_builtins.specs.Parts.{keys_out}
use Rattle.eval_values.specs.RowNames.{row_ids, row_words, parts_words}
use Rattle.std.proofs.Common.{arith, ◌≡◌, ℕ, zero, suc, ◌+◌, ◌*◌, ◌<◌, ◌≤◌, Bool, true, false, Option, Some, None, List, [], ◌∷◌, map, length, length-append}
use Rattle.std.proofs.Common.{refl, ap, sym, ◌∙◌, subst, Ok, Vec, Global, slice_index_or, if◌then◌else◌}
use Rattle.std.specs.Prelude.{pos, negsuc}
use Rattle.std.proofs.lemmas.Fmt.{length_signed_le}
use Rattle.std.proofs.lemmas.List.{append-nil}
use Rattle.js_number.specs.declared.Num.{Num}
use Rattle.js_number.specs.declared.Num.TheVariants.{Int, NaN, PosInf, NegInf}
use Rattle.js_number.specs.Places.{IsLawful}
use Rattle.js_store.specs.State.{State, NamesUnits, text as text_of}
use Rattle.js_store.specs.Faults.{StoreStep}
use Rattle.js_store.specs.declared.faults.StoreFault.{StoreFault}
use Rattle.js_store.specs.declared.faults.StoreFault.TheVariants.{Memory}
use Rattle.js_texts.specs.Use.{made_words}
use Rattle.js_store.proofs.Laws.{settle_words_most, known_has}
use Rattle.js_texts.specs.Texts.{AllKnown, known_texts}
use Rattle.js_texts.specs.Delimited.{rest_of, delimited}
use Rattle.js_texts.proofs.Lists.{all_known_still, texts_still}
use Rattle.js_json.specs.Quoting.{quoted}
use Rattle.js_item.specs.Contents.{Content, undefined, null, bool, number, text, symbol, list, object, Fields, no_fields, field}
use Rattle.js_item.specs.Fine.{KnownStrings, strings_of, FineOf, FineFields}
use Rattle.js_item.specs.Seen.{says, content_mapped, fields_mapped}
use Rattle.js_item.specs.declared.item.Item.TheVariants as item
use Rattle.js_item.proofs.Still.{fine_keys}
use Rattle.js_object.specs.Use.{settle_in, settle_fields}
use Rattle.js_object.specs.Keys.{ordered, own_keys, unit_keys}
use Rattle.js_object.specs.Json.{number_json, is_shown, shown, text_json, json_members as parts_of, json_of}
use Rattle.js_object.specs.Steps.{JsonMember}
use Rattle.js_object.specs.Steps.{bool_json, part_index, more_shown}
use Rattle.js_object.proofs.Lengths.{total, ordered_most}
use Rattle.js_object.proofs.Seen.{own_keys_known}
use Rattle.eval_values.specs.Need.{reads}
use Rattle.eval_values.specs.Conversions.{list_units}
use Rattle.eval_values.specs.Outcome.{needing, ledger_of}
use Rattle.eval_values.specs.Ran.{MeetsLedger, EndsInPart}
use Rattle.eval_values.specs.Does.{GivesValue}
use Rattle.eval_values.proofs.Compose.{cut_of_memory}
use Rattle.eval_values.proofs.Needs.{made_most, some_most, settle_few}
use Rattle.eval_builtins.specs.Quoting.{quoted_units, field_units, parts_in, field_parts}
use Rattle.eval_builtins.proofs.Quoted.{quoted_most, list_most}

number_most : (n : Num) → IsLawful n → length (number_json n) ≤ 17
number_most (Int (pos n)) h = length_signed_le 16 (pos n) (omega (arith, h)) (omega (arith, h))
number_most (Int (negsuc n)) h = length_signed_le 16 (negsuc n) (omega (arith, h)) (omega (arith, h))
number_most NaN h = omega arith
number_most PosInf h = omega arith
number_most NegInf h = omega arith

bool_most : (b : Bool) → length (bool_json b) ≤ 5
bool_most true = omega arith
bool_most false = omega arith

-- what a member gives, with the mark behind it
abbrev part_len : JsonMember → ℕ
part_len p = total (λ u. length u + 1) (more_shown p.0 p.1 [])

more_len : (k : List ℕ) (o : Option (List ℕ)) (us : List (List ℕ)) → total (λ u. length u + 1) (more_shown k o us) ≡ total (λ u. length u + 1) (more_shown k o []) + total (λ u. length u + 1) us
more_len k None us = omega arith
more_len k (Some u) us = omega arith

shown_len : (ps : List JsonMember) → total (λ u. length u + 1) (shown ps) ≡ total part_len ps
shown_len [] = refl
shown_len (p ∷ ps) = omega (arith, more_len p.0 p.1 (shown ps), shown_len ps)

rest_len : (us : List (List ℕ)) → length (rest_of (λ u. u) 0x2C 0x7D us) ≡ 1 + total (λ u. length u + 1) us
rest_len [] = refl
rest_len (u ∷ us) = omega (arith, length-append u (rest_of (λ u. u) 0x2C 0x7D us), rest_len us)

delimited_len : (us : List (List ℕ)) → length (delimited (λ u. u) 0x2C 0x7D us) ≤ 1 + total (λ u. length u + 1) us
delimited_len [] = omega arith
delimited_len (u ∷ us) = omega (arith, length-append u (rest_of (λ u. u) 0x2C 0x7D us), rest_len us)

json_len : {R : Type 0} (say : R → List ℕ) (fs : Fields R) → length (json_of say fs) ≤ 2 + total part_len (parts_of say fs)
json_len say fs = omega (arith, delimited_len (shown (ordered part_index (parts_of say fs))), shown_len (ordered part_index (parts_of say fs)), ordered_most part_len part_index (parts_of say fs))

-- the text of a member
part_most : (k u : List ℕ) (b : Bool) (n : ℕ) → length u ≤ n → part_len (k, if b then Some u else None) ≤ length (quoted k) + 2 + n
part_most k u true n h = omega (arith, length-append (quoted k) (0x3A ∷ u))
part_most k u false n h = omega arith

module _ {R : Type 0} (say : R → List ℕ) (s : KnownStrings) (name : R → ℕ) where
  mutual
    text_most : (c : Content R) → FineOf s name c → length (text_json say c) ≤ 17 + 21 * parts_in (content_mapped say c) + 6 * quoted_units (content_mapped say c)
    text_most undefined h = omega arith
    text_most null h = omega arith
    text_most (bool b) h = omega (arith, bool_most b)
    text_most (number n) h = omega (arith, number_most n h)
    text_most (text r) h = omega (arith, quoted_most (say r))
    text_most (symbol r) h = omega arith
    text_most (list rs) h = omega (arith, list_most (map say rs))
    text_most (object fs) h = omega (arith, json_len say fs, fields_most fs h.0)

    fields_most : (fs : Fields R) → FineFields s name fs → total part_len (parts_of say fs) ≤ 21 * field_parts (fields_mapped say fs) + 6 * field_units (fields_mapped say fs)
    fields_most no_fields h = omega arith
    fields_most (field key value rest) h =
        omega (
          arith,
          part_most (say key) (text_json say value) (is_shown value)
              (17 + 21 * parts_in (content_mapped say value) + 6 * quoted_units (content_mapped say value)) (text_most value h.1),
          quoted_most
              (say key),
          fields_most rest h.2,
        )

  pub json_most : (fs : Fields R) → FineFields s name fs → length (json_of say fs) ≤ 2 + 21 * field_parts (fields_mapped say fs) + 6 * field_units (fields_mapped say fs)
  json_most fs h = omega (arith, json_len say fs, fields_most fs h)

module _ {F R : Type 0} (s : State F) (name : R → ℕ) where
  -- settling strings takes a word for four units, and one more for each
  mutual
    settle_value : (c : Content R) → 4 * settle_in s name c ≤ quoted_units (content_mapped (says s name) c) + 3 * parts_in (content_mapped (says s name) c) + 3
    settle_value undefined = omega arith
    settle_value null = omega arith
    settle_value (bool b) = omega arith
    settle_value (number n) = omega arith
    settle_value (text r) = omega (arith, settle_words_most (s.settled (name r)) (length (text_of s (name r))))
    settle_value (symbol r) = omega arith
    settle_value (list rs) = omega (arith, settle_few s name rs)
    settle_value (object fs) = omega (arith, settle_object fs)

    pub settle_object : (fs : Fields R) → 4 * settle_fields s name fs ≤ field_units (fields_mapped (says s name) fs) + 3 * field_parts (fields_mapped (says s name) fs)
    settle_object no_fields = omega arith
    settle_object (field key value rest) = omega (arith, settle_value value, settle_object rest)

  -- what `JSON.stringify` of an object takes, also where its text is too long
  module _ (fs : Fields R) (h : FineFields (strings_of s) name fs) where
    abbrev pub given : Fields (List ℕ)
    given = fields_mapped (says s name) fs

    pub stringify_use : (limit n : ℕ) → 2 * settle_fields s name fs + made_words limit (json_of (says s name) fs) ≤ parts_words (field_parts given) (field_units given + n)
    stringify_use limit n = omega (arith, settle_object fs, made_most limit (json_of (says s name) fs), json_most (says s name) (strings_of s) name fs h, some_most (field_parts given))

-- the keys of an object as an array
module _ {F R : Type 0} (name : R → ℕ) where
  -- each of known strings has a number
  texts_have : (s : State F) (rs : List R) → AllKnown s name rs → (u : List ℕ) (k : ℕ) → k < length (known_texts s name rs) → slice_index_or
      (known_texts s name rs) k u ≡ u → (n : ℕ) × NamesUnits s n u
  texts_have s [] h u k l e = absurd (omega (arith, l))
  texts_have s (r ∷ rs) h u zero l e = (name r, known_has s (name r) h.0 ∙ ap Some e)
  texts_have s (r ∷ rs) h u (suc k) l e = texts_have s rs h.1 u k (omega (arith, l)) e

  module _ (a b : State F) (s : StoreStep a b None 0 0) (h : b.history ≡ a.history) (fs : Fields R) where
    ran_keys : (rs : List R) → AllKnown b name rs → MeetsLedger a b (record { interned = []; texts = known_texts b name rs; ids = row_ids; words = row_words (list_units (known_texts b name rs)) })
    ran_keys rs k = record {
      grows = s.grows;
      history = record { pairs = []; grown = h ∙ sym (append-nil a.history); same = refl };
      texts = λ u c. texts_have b rs k u c.0 c.1 c.2;
      within_ids = let e = s.within_ids in omega arith;
      within_words = let e = s.within_words in omega arith;
    }

    pub keys_known : (rs : List R) → FineFields (strings_of a) name fs → rs ≡ own_keys a name fs → AllKnown b name rs
    keys_known rs fine e = all_known_still name a b rs s.grows (subst (λ (q : List R). AllKnown a name q) (sym e) (own_keys_known a name fs (fine_keys (strings_of a) name fs fine)))

    pub keys_given : (v : Vec R Global) → FineFields (strings_of a) name fs → v.items ≡ own_keys a name fs → map (says a name) v.items ≡
        unit_keys (fields_mapped (says a name) fs) → GivesValue name a b (Ok (item.List v)) (keys_out (fields_mapped (says a name) fs))
    keys_given v fine e u =
        let known : AllKnown a name v.items = subst (λ (q : List R). AllKnown a name q) (sym e) (own_keys_known a name fs (fine_keys (strings_of a) name fs fine)) in
        let k : AllKnown b name v.items = keys_known v.items fine e in
        let same : known_texts b name v.items ≡ unit_keys (fields_mapped (says a name) fs) = texts_still name a b v.items s.grows known ∙ u in
        subst (λ (q : List (List ℕ)). GivesValue name a b (Ok (item.List v)) (needing (reads (list_units q)) (list q))) same (record { is = refl; good = k; ran = ran_keys v.items k })

    pub no_keys : (f : StoreFault) → f ≡ Memory → EndsInPart a b f (ledger_of (keys_out (fields_mapped (says a name) fs)))
    no_keys f e = subst (λ (g : StoreFault). EndsInPart a b g (ledger_of (keys_out (fields_mapped (says a name) fs)))) (sym e)
        (cut_of_memory (ledger_of (keys_out (fields_mapped (says a name) fs))) s h (omega arith) (omega arith))
