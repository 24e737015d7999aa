-- What may be told stays so while the store grows, and what is fine may be told.
use Rattle.std.proofs.Common.{ℕ}
use Rattle.js_store.specs.State.{State, Grows}
use Rattle.js_store.proofs.Laws.{known_still}
use Rattle.js_texts.proofs.Lists.{every_map}
use Rattle.js_item.specs.Contents.{Content, undefined, null, bool, number, text, symbol, list, object, Fields, no_fields, field}
use Rattle.js_item.specs.Fine.{KnownStrings, strings_of, KeysFine, FineOf, FineFields}
use Rattle.js_item.proofs.Still.{key_still}
use Rattle.js_object.specs.Readable.{Readable, ReadableFields}

module _ {F R : Type 0} (a b : State F) (g : Grows a b) (name : R → ℕ) where
  mutual
    pub readable_still : (c : Content R) → Readable (strings_of a) name c → Readable (strings_of b) name c
    readable_still undefined h = tt
    readable_still null h = tt
    readable_still (bool t) h = tt
    readable_still (number n) h = h
    readable_still (text r) h = known_still g (name r) h
    readable_still (symbol r) h = known_still g (name r) h
    readable_still (list rs) h = every_map (λ r k. known_still g (name r) k) rs h
    readable_still (object fs) h = fields_still fs h

    pub fields_still : (fs : Fields R) → ReadableFields (strings_of a) name fs → ReadableFields (strings_of b) name fs
    fields_still no_fields h = tt
    fields_still (field key value rest) h = (key_still a b g (name key) h.0, readable_still value h.1, fields_still rest h.2)

module _ {R : Type 0} (s : KnownStrings) (name : R → ℕ) where
  pub readable_keys : (fs : Fields R) → ReadableFields s name fs → KeysFine s name fs
  readable_keys no_fields h = tt
  readable_keys (field key value rest) h = (h.0, readable_keys rest h.2)

  mutual
    pub fine_readable : (c : Content R) → FineOf s name c → Readable s name c
    fine_readable undefined h = tt
    fine_readable null h = tt
    fine_readable (bool t) h = tt
    fine_readable (number n) h = h
    fine_readable (text r) h = h
    fine_readable (symbol r) h = h.0
    fine_readable (list rs) h = h
    fine_readable (object fs) h = fine_fields_readable fs h.0

    pub fine_fields_readable : (fs : Fields R) → FineFields s name fs → ReadableFields s name fs
    fine_fields_readable no_fields h = tt
    fine_fields_readable (field key value rest) h = (h.0, fine_readable value h.1, fine_fields_readable rest h.2)
