-- What is fine stays fine while the store grows.
use Rattle.std.proofs.Common.{◌≡◌, ℕ, zero, suc, ◌<◌, Bool, true, false, List, [], ◌∷◌, ◌++◌, length, get_or, refl, sym, subst, ◌∙◌, arith}
use Rattle.std.specs.Prelude.{if◌then◌else◌, bytes_eq, Contains, Option, Some, Result, Ok, Err, OnOk, OnErr}
use Rattle.std.proofs.lemmas.List.Elements.{Contains-append_right}
use Rattle.std.proofs.lemmas.Slice.Eq.{bytes_eq-Decides}
use Rattle.js_store.specs.State.{State, Grows, NamesUnits, IsSettled, Interned, text}
use Rattle.js_store.proofs.Laws.{known_still, text_still, has_known, has_text}
use Rattle.js_texts.specs.Texts.{Every}
use Rattle.js_texts.proofs.Lists.{every_map}
use Rattle.js_item.specs.Contents.{Content, undefined, null, bool, number, text as texted, symbol, list, object, Fields, no_fields, field}
use Rattle.js_item.specs.declared.item.Item.{Item}
use Rattle.js_item.specs.declared.item.Member.{Member}
use Rattle.js_item.specs.Views.{content_of, fields_of}
use Rattle.js_item.specs.Puts.{value_by, put_by, names_key}
use Rattle.js_item.specs.Fine.{KnownStrings, strings_of, units_at, SymbolFine, KeyFine, NoKey, FineOf, FineFields, KeysFine, KeysDiffer, IsFine}

-- the keys of a fine object are fine, and differ
module _ {R : Type 0} (s : KnownStrings) (name : R → ℕ) where
  pub fine_keys : (fs : Fields R) → FineFields s name fs → KeysFine s name fs
  fine_keys no_fields h = tt
  fine_keys (field key value rest) h = (h.0, fine_keys rest h.2)

  pub fine_differ : (fs : Fields R) → FineFields s name fs → KeysDiffer s name fs
  fine_differ no_fields h = tt
  fine_differ (field key value rest) h = (h.3, fine_differ rest h.2)

module _ {F : Type 0} (a b : State F) (g : Grows a b) where
  symbol_still : (n : ℕ) → SymbolFine (strings_of a) n → SymbolFine (strings_of b) n
  symbol_still n h = (known_still g n h.0, subst (λ (u : List ℕ). Interned b u n) (sym (text_still g n h.0)) (g.interned (text a n) n h.1))

  pub key_still : (n : ℕ) → KeyFine (strings_of a) n → KeyFine (strings_of b) n
  key_still n h =
      let s : SymbolFine (strings_of b) n = symbol_still n (h.known, h.interned) in
      record { known = s.0; interned = s.1; settled = g.settled n h.settled }

  module _ {R : Type 0} (name : R → ℕ) where
    no_key_still : (u : List ℕ) (fs : Fields R) → KeysFine (strings_of a) name fs → NoKey (strings_of a) name u fs → NoKey (strings_of b) name u fs
    no_key_still u no_fields k h = tt
    no_key_still u (field key value rest) k h = (λ e. h.0 (sym (text_still g (name key) k.0.known) ∙ e), no_key_still u rest k.1 h.1)

    -- the same of the units of a key
    no_other_still : (key : R) (fs : Fields R) → KeyFine (strings_of a) (name key) → KeysFine (strings_of a) name fs → NoKey (strings_of a)
        name (units_at (strings_of a) (name key)) fs → NoKey (strings_of b) name (units_at (strings_of b) (name key)) fs
    no_other_still key fs l k h = subst (λ (u : List ℕ). NoKey (strings_of b) name u fs) (sym (text_still g (name key) l.known)) (no_key_still (units_at (strings_of a) (name key)) fs k h)

    mutual
      pub fine_of_still : (c : Content R) → FineOf (strings_of a) name c → FineOf (strings_of b) name c
      fine_of_still undefined h = tt
      fine_of_still null h = tt
      fine_of_still (bool t) h = tt
      fine_of_still (number n) h = h
      fine_of_still (texted r) h = known_still g (name r) h
      fine_of_still (symbol r) h = symbol_still (name r) h
      fine_of_still (list rs) h = every_map (λ r k. known_still g (name r) k) rs h
      fine_of_still (object fs) h = (fine_fields_still fs h.0, h.1)

      pub fine_fields_still : (fs : Fields R) → FineFields (strings_of a) name fs → FineFields (strings_of b) name fs
      fine_fields_still no_fields h = tt
      fine_fields_still (field key value rest) h = (
        key_still (name key) h.0,
        fine_of_still value h.1,
        fine_fields_still rest h.2,
        no_other_still key rest h.0 (fine_keys (strings_of a) name rest h.2) h.3,
      )

    pub fine_still : (v : Item R) → IsFine a name v → IsFine b name v
    fine_still v h = fine_of_still (content_of v) h

    pub keys_still : (fs : Fields R) → KeysFine (strings_of a) name fs → KeysFine (strings_of b) name fs
    keys_still no_fields h = tt
    keys_still (field key value rest) h = (key_still (name key) h.0, keys_still rest h.1)

    pub differ_still : (fs : Fields R) → KeysFine (strings_of a) name fs → KeysDiffer (strings_of a) name fs → KeysDiffer (strings_of b) name fs
    differ_still no_fields k h = tt
    differ_still (field key value rest) k h = (no_other_still key rest k.0 k.1 h.0, differ_still rest k.1 h.1)

-- each value of a fine object is fine, also once one more was put in
module _ {R : Type 0} (s : KnownStrings) (name : R → ℕ) where
  pub fine_value : (ms : List (Member R)) (i : ℕ) (m : Member R) → i < length ms → m ≡ get_or ms i m → FineFields s name (fields_of ms) → FineOf s name (content_of m.value)
  fine_value [] i m l e h = absurd (omega arith)
  fine_value (n ∷ ms) zero m l e h = let P : Member R → Type 0 = λ p. FineOf s name (content_of p.value) in subst P (sym e) h.1
  fine_value (n ∷ ms) (suc i) m l e h = fine_value ms i m (omega arith) e h.2

  fine_pick : (b : Bool) (w v : Content R) (o : Option (Content R)) → (if b then Some w else o) ≡ Some v → FineOf s name w → (o ≡ Some v → FineOf s name v) → FineOf s name v
  fine_pick true w v o e h k = let same : w ≡ v = cc in subst (λ (c : Content R). FineOf s name c) same h
  fine_pick false w v o e h k = k e

  pub fine_by : (is : R → Bool) (fs : Fields R) (v : Content R) → FineFields s name fs → value_by is fs ≡ Some v → FineOf s name v
  fine_by is no_fields v h e = cc
  fine_by is (field k w rest) v h e = fine_pick (is k) w v (value_by is rest) e h.1 (λ r. fine_by is rest v h.2 r)

  fine_if : (b : Bool) (fs gs : Fields R) → (b ≡ true → FineFields s name fs) → (b ≡ false → FineFields s name gs) → FineFields s name (if b then fs else gs)
  fine_if true fs gs h k = h refl
  fine_if false fs gs h k = k refl

  no_key_if : (b : Bool) (u : List ℕ) (fs gs : Fields R) → NoKey s name u fs → NoKey s name u gs → NoKey s name u (if b then fs else gs)
  no_key_if true u fs gs h k = h
  no_key_if false u fs gs h k = k

  no_key_put : (is : R → Bool) (key : R) (value : Content R) (u : List ℕ) (fs : Fields R) → (units_at s (name key) ≡ u → ⊥) → NoKey s name u fs → NoKey s name u (put_by is key value fs)
  no_key_put is key value u no_fields n h = (n, tt)
  no_key_put is key value u (field l w rest) n h = no_key_if (is l) u (field l value rest) (field l w (put_by is key value rest)) h (h.0, no_key_put is key value u rest n h.1)

  apart : (u w : List ℕ) → bytes_eq u w ≡ false → w ≡ u → ⊥
  apart u w h e = let t : false ≡ true = sym h ∙ (bytes_eq-Decides u w).1 (sym e) in cc

  keys_if : (b : Bool) (fs gs : Fields R) → KeysFine s name fs → KeysFine s name gs → KeysFine s name (if b then fs else gs)
  keys_if true fs gs h k = h
  keys_if false fs gs h k = k

  differ_if : (b : Bool) (fs gs : Fields R) → KeysDiffer s name fs → (b ≡ false → KeysDiffer s name gs) → KeysDiffer s name (if b then fs else gs)
  differ_if true fs gs h k = h
  differ_if false fs gs h k = k refl

  -- a member that is put in by its key leaves the keys different
  module _ (key : R) (value : Content R) (k : KeyFine s (name key)) where
    abbrev names : R → Bool
    names r = bytes_eq (units_at s (name r)) (units_at s (name key))

    pub keys_put : (fs : Fields R) → KeysFine s name fs → KeysFine s name (put_by names key value fs)
    keys_put no_fields h = (k, tt)
    keys_put (field l w rest) h = keys_if (names l) (field l value rest) (field l w (put_by names key value rest)) h (h.0, keys_put rest h.1)

    pub differ_put : (fs : Fields R) → KeysDiffer s name fs → KeysDiffer s name (put_by names key value fs)
    differ_put no_fields h = (tt, tt)
    differ_put (field l w rest) h = differ_if (names l) (field l value rest) (field l w (put_by names key value rest)) h
        (λ n. (no_key_put names key value (units_at s (name l)) rest (apart (units_at s (name l)) (units_at s (name key)) n) h.0, differ_put rest h.1))

  module _ (key : R) (value : Content R) (k : KeyFine s (name key)) (v : FineOf s name value) where
    abbrev named : R → Bool
    named r = bytes_eq (units_at s (name r)) (units_at s (name key))

    pub fine_put : (fs : Fields R) → FineFields s name fs → FineFields s name (put_by named key value fs)
    fine_put no_fields h = (k, v, tt, tt)
    fine_put (field l w rest) h = fine_if (named l) (field l value rest) (field l w (put_by named key value rest))
        (λ t. (h.0, v, h.2, h.3))
        (λ n. (h.0, h.1, fine_put rest h.2, no_key_put named key value (units_at s (name l)) rest (apart (units_at s (name l)) (units_at s (name key)) n) h.3))

-- an object gs that is fs with a member put in, or fs itself, in a store that has grown
module _ {F R : Type 0} (a b : State F) (g : Grows a b) (name : R → ℕ) (key : R) (value : Content R) (k : KeyFine (strings_of a) (name key))
    (fs gs : Fields R) (keys : KeysFine (strings_of a) name fs) where
  abbrev with_member : Fields R
  with_member = put_by (names_key a name key) key value fs

  pub keys_with : gs ≡ with_member → KeysFine (strings_of b) name gs
  keys_with e = let P : Fields R → Type 0 = λ f. KeysFine (strings_of b) name f in subst P (sym e) (keys_still a b g name with_member (keys_put (strings_of a) name key value k fs keys))

  pub keys_without : gs ≡ fs → KeysFine (strings_of b) name gs
  keys_without e = let P : Fields R → Type 0 = λ f. KeysFine (strings_of b) name f in subst P (sym e) (keys_still a b g name fs keys)

  pub keys_either : {A E : Type 0} (r : Result A E) (hs : Fields R) → hs ≡ fs → OnOk r (gs ≡ with_member) → OnErr r (gs ≡ hs) → KeysFine (strings_of b) name gs
  keys_either (Ok x) hs e p q = keys_with p
  keys_either (Err x) hs e p q = keys_without (q ∙ e)

  module _ (differ : KeysDiffer (strings_of a) name fs) where
    pub differ_with : gs ≡ with_member → KeysDiffer (strings_of b) name gs
    differ_with e =
        let P : Fields R → Type 0 = λ f. KeysDiffer (strings_of b) name f in
        subst P (sym e) (differ_still a b g name with_member (keys_put (strings_of a) name key value k fs keys) (differ_put (strings_of a) name key value k fs differ))

    pub differ_without : gs ≡ fs → KeysDiffer (strings_of b) name gs
    differ_without e = let P : Fields R → Type 0 = λ f. KeysDiffer (strings_of b) name f in subst P (sym e) (differ_still a b g name fs keys differ)

    pub differ_either : {A E : Type 0} (r : Result A E) (hs : Fields R) → hs ≡ fs → OnOk r (gs ≡ with_member) → OnErr r (gs ≡ hs) → KeysDiffer (strings_of b) name gs
    differ_either (Ok x) hs e p q = differ_with p
    differ_either (Err x) hs e p q = differ_without (q ∙ e)

-- what was interned last is a key
pub key_made : {F : Type 0} (s : State F) (n : ℕ) (u : List ℕ) (h : List (List ℕ × ℕ)) → NamesUnits s n u → IsSettled s n → s.history ≡ h ++ (u, n) ∷ [] → KeyFine (strings_of s) n
key_made s n u h k t e =
    let there : Contains s.history (u, n) = subst (λ (l : List (List ℕ × ℕ)). Contains l (u, n)) (sym e) (Contains-append_right h ((u, n) ∷ []) (u, n) (0, omega arith, refl)) in
    record {
      known = has_known s n u k;
      interned = subst (λ (w : List ℕ). Interned s w n) (sym (has_text s n u k)) there;
      settled = t;
    }

-- what is fine in a store is so in one that differs from it in counters and in its frame alone: this holds by computation
pub fine_beside : {F R : Type 0} (s : State F) (f : F) (name : R → ℕ) (vs : List (Item R)) → Every (λ v. IsFine s name v) vs → Every
    (λ v. IsFine (record s { used_ids = 0; used_words = 0; frame = f }) name v) vs
fine_beside s f name vs h = h
