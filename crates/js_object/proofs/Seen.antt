-- The keys and the text of an object are those of what it stands for.
use Rattle.std.proofs.Common.{◌≡◌, ℕ, List, [], ◌∷◌, map, refl, ap, sym, ◌∙◌}
use Rattle.std.proofs.lemmas.List.{map-id}
use Rattle.js_store.specs.State.{State}
use Rattle.js_texts.specs.Texts.{Every, AllKnown}
use Rattle.js_texts.proofs.Lists.{every_map}
use Rattle.js_json.specs.Quoting.{list_text}
use Rattle.js_item.specs.Contents.{Content, undefined, null, bool, number, text, symbol, list, object, Fields, no_fields, field}
use Rattle.js_item.specs.Fine.{strings_of, KeyFine, KeysFine}
use Rattle.js_item.specs.Seen.{says, content_mapped, fields_mapped}
use Rattle.js_object.specs.Keys.{index_of_key, index_in, ordered, key_values, keys_of, own_keys, unit_keys}
use Rattle.js_object.specs.Json.{is_shown, object_json, text_json, json_members, json_of}
use Rattle.js_object.proofs.Ordered.{ordered_seen, every_ordered}

module _ {R Q : Type 0} (f : R → Q) where
  abbrev see : R × Content R → Q × Content Q
  see e = (f e.0, content_mapped f e.1)

  entries_mapped : (fs : Fields R) → key_values (fields_mapped f fs) ≡ map see (key_values fs)
  entries_mapped no_fields = refl
  entries_mapped (field k v rest) = ap (λ es. see (k, v) ∷ es) (entries_mapped rest)

  keys_mapped : (es : List (R × Content R)) → map f (keys_of es) ≡ keys_of (map see es)
  keys_mapped [] = refl
  keys_mapped (e ∷ es) = ap (λ ks. f e.0 ∷ ks) (keys_mapped es)

pub keys_seen : {F R : Type 0} (s : State F) (name : R → ℕ) (fs : Fields R) → map (says s name) (own_keys s name fs) ≡ unit_keys (fields_mapped (says s name) fs)
keys_seen s name fs =
    keys_mapped (says s name) (ordered (index_in s name) (key_values fs))
    ∙ ap keys_of (ordered_seen (see (says s name)) (λ e. index_of_key e.0) (key_values fs) ∙ ap (ordered (λ e. index_of_key e.0)) (sym (entries_mapped (says s name) fs)))

-- the text of what an object stands for
module _ {R : Type 0} (f : R → List ℕ) where
  shown_mapped : (c : Content R) → is_shown (content_mapped f c) ≡ is_shown c
  shown_mapped undefined = refl
  shown_mapped null = refl
  shown_mapped (bool b) = refl
  shown_mapped (number n) = refl
  shown_mapped (text r) = refl
  shown_mapped (symbol r) = refl
  shown_mapped (list rs) = refl
  shown_mapped (object fs) = refl

  mutual
    pub text_mapped : (c : Content R) → text_json (λ u. u) (content_mapped f c) ≡ text_json f c
    text_mapped undefined = refl
    text_mapped null = refl
    text_mapped (bool b) = refl
    text_mapped (number n) = refl
    text_mapped (text r) = refl
    text_mapped (symbol r) = refl
    text_mapped (list rs) = ap list_text (map-id (map f rs))
    text_mapped (object fs) = ap object_json (parts_mapped fs)

    parts_mapped : (fs : Fields R) → json_members (λ u. u) (fields_mapped f fs) ≡ json_members f fs
    parts_mapped no_fields = refl
    parts_mapped (field k v rest) = rw (shown_mapped v, text_mapped v, parts_mapped rest) refl

  pub json_mapped : (fs : Fields R) → json_of (λ u. u) (fields_mapped f fs) ≡ json_of f fs
  json_mapped fs = ap object_json (parts_mapped fs)

-- the keys that are told are keys
module _ {F R : Type 0} (s : State F) (name : R → ℕ) where
  entries_keys : (fs : Fields R) → KeysFine (strings_of s) name fs → Every (λ e. KeyFine (strings_of s) (name e.0)) (key_values fs)
  entries_keys no_fields h = tt
  entries_keys (field k v rest) h = (h.0, entries_keys rest h.1)

  firsts : (es : List (R × Content R)) → Every (λ e. KeyFine (strings_of s) (name e.0)) es → Every (λ r. KeyFine (strings_of s) (name r)) (keys_of es)
  firsts [] h = tt
  firsts (e ∷ es) h = (h.0, firsts es h.1)

  pub own_keys_fine : (fs : Fields R) → KeysFine (strings_of s) name fs → Every (λ r. KeyFine (strings_of s) (name r)) (own_keys s name fs)
  own_keys_fine fs h = firsts (ordered (index_in s name) (key_values fs)) (every_ordered (λ e. KeyFine (strings_of s) (name e.0)) (index_in s name) (key_values fs) (entries_keys fs h))

  pub own_keys_known : (fs : Fields R) → KeysFine (strings_of s) name fs → AllKnown s name (own_keys s name fs)
  own_keys_known fs h = every_map (λ r k. k.known) (own_keys s name fs) (own_keys_fine fs h)
