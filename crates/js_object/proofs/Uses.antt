-- What reading the strings of an object uses, member by member.
use Rattle.std.proofs.Common.{arith, ◌≡◌, ℕ, ◌+◌, ◌<◌, ◌≤◌, Bool, true, false, Option, None, List, [], ◌∷◌, map, length, get_or, drop, refl, ap}
use Rattle.std.specs.Borrow.{Bor}
use Rattle.js_store.specs.State.{State, Grows, text as text_of}
use Rattle.js_store.specs.Rows.{settle_words}
use Rattle.js_store.specs.Faults.{StoreStep}
use Rattle.js_store.specs.declared.faults.StoreFault.{StoreFault}
use Rattle.js_store.proofs.Laws.{step_within, grows_trans}
use Rattle.std.specs.Prelude.{Result, Ok, Err, IfErr}
use Rattle.js_store.specs.declared.faults.StoreFault.TheVariants.{Memory}
use Rattle.js_texts.specs.Texts.{full_only, full_fault_of}
use Rattle.js_texts.proofs.Lists.{settle_still, drop_at}
use Rattle.js_item.specs.Contents.{Content, undefined, null, bool, number, text, symbol, list, object, Fields, no_fields, field}
use Rattle.js_item.specs.declared.item.Member.{Member}
use Rattle.js_item.specs.Views.{content_of}
use Rattle.js_item.specs.Fine.{strings_of, KeyFine}
use Rattle.js_object.specs.Readable.{Readable, ReadableFields}
use Rattle.js_object.specs.Keys.{index_in, ordered, key_values, lent_entry}
use Rattle.js_object.specs.Use.{settle_in, settle_fields}
use Rattle.js_object.proofs.Texts.{item_fine}
use Rattle.js_object.proofs.Lengths.{total, ordered_most}

-- settling takes no more once the store has grown
module _ {F R : Type 0} (a b : State F) (name : R → ℕ) (g : Grows a b) where
  mutual
    pub settle_in_still : (c : Content R) → Readable (strings_of a) name c → settle_in b name c ≤ settle_in a name c
    settle_in_still undefined h = omega arith
    settle_in_still null h = omega arith
    settle_in_still (bool t) h = omega arith
    settle_in_still (number n) h = omega arith
    settle_in_still (text r) h = omega (arith, settle_still name a b (r ∷ []) g (h, tt))
    settle_in_still (symbol r) h = omega arith
    settle_in_still (list rs) h = settle_still name a b rs g h
    settle_in_still (object fs) h = settle_fields_still fs h

    pub settle_fields_still : (fs : Fields R) → ReadableFields (strings_of a) name fs → settle_fields b name fs ≤ settle_fields a name fs
    settle_fields_still no_fields h = omega arith
    settle_fields_still (field key value rest) h = omega (arith, settle_in_still value h.1, settle_fields_still rest h.2)

settled_none : (k : Bool) (n : ℕ) → k ≡ true → settle_words k n ≡ 0
settled_none true n e = refl
settled_none false n e = cc

-- reading a key uses nothing
pub key_step : {F : Type 0} (a b : State F) (f : Option StoreFault) (n : ℕ) → KeyFine (strings_of a) n → StoreStep a b f 0 (settle_words (a.settled n) (length (text_of a n))) → StoreStep a b f 0 0
key_step a b f n k s = step_within s (omega arith) (omega (arith, settled_none (a.settled n) (length (text_of a n)) k.settled))

module _ {F R : Type 0} (s : State F) (name : R → ℕ) where
  abbrev settle_entry : R × Content R → ℕ
  settle_entry e = settle_in s name e.1

  entries_settle : (fs : Fields R) → total settle_entry (key_values fs) ≡ settle_fields s name fs
  entries_settle no_fields = refl
  entries_settle (field key value rest) = omega (arith, entries_settle rest)

  -- what the members use that lie in the order of their keys
  unfoldable pub lent_settle : List (Bor (Member R)) → ℕ
  lent_settle ms = total settle_entry (map lent_entry ms)

  pub lent_settles : (index : R × Content R → Option ℕ) (fs : Fields R) (ms : List (Bor (Member R))) → map lent_entry ms ≡ ordered index (key_values fs) → lent_settle ms ≤ settle_fields s name fs
  unfolding lent_settle
  lent_settles index fs ms e = omega (arith, ap (total settle_entry) e, ordered_most settle_entry index (key_values fs), entries_settle fs)

  pub settle_turn : (ms : List (Bor (Member R))) (i : ℕ) (m : Bor (Member R)) → i < length ms → m ≡ get_or ms i m → lent_settle (drop i ms)
      ≡ settle_in s name (content_of m.now.value) + lent_settle (drop (i + 1) ms)
  unfolding lent_settle
  settle_turn ms i m h e = rw (drop_at ms i m h e) refl

-- what came after the turns before: so much was left to use at b, and the whole is x, at most y
pub used_then : {F : Type 0} (a b d : State F) (f : Option StoreFault) (x y z w : ℕ) → Grows a b → b.used_ids ≤ a.used_ids → b.used_words +
    z ≤ a.used_words + x → StoreStep b d f 0 w → w ≤ z → x ≤ y → StoreStep a d f 0 y
used_then a b d f x y z w g i u s h k = record {
  grows = grows_trans g s.grows;
  honest = s.honest;
  within_ids = omega (arith, s.within_ids, i);
  within_words = omega (arith, s.within_words, u, h, k);
}

-- a turn of the loop over the members of the object fs, at the state a when it began, b within it and d once the key was read
module _ {F R : Type 0} (a b d : State F) (name : R → ℕ) (g : Grows a b) (h : Grows a d) (fs : Fields R) (fine : ReadableFields (strings_of a) name fs) (ms : List (Bor (Member R)))
    (order : map lent_entry ms ≡ ordered (index_in a name) (key_values fs)) (i : ℕ) (m : Bor (Member R)) (within : i < length ms) (there : m ≡ get_or ms i m)
    (ids : b.used_ids ≤ a.used_ids) (words : b.used_words + lent_settle a name (drop i ms) ≤ a.used_words + lent_settle a name ms) where
  most : lent_settle a name ms ≤ settle_fields a name fs
  most = lent_settles a name (index_in a name) fs ms order

  value_most : settle_in d name (content_of m.now.value) ≤ lent_settle a name (drop i ms)
  value_most = omega (arith, settle_in_still a d name h (content_of m.now.value) (item_fine a d name h fs fine ms order i m within there), settle_turn a name ms i m within there)

  pub key_uses : (e : State F) (f : Option StoreFault) → StoreStep b e f 0 0 → StoreStep a e f 0 (settle_fields a name fs)
  key_uses e f s = used_then a b e f (lent_settle a name ms) (settle_fields a name fs) (lent_settle a name (drop i ms)) 0 g ids words s (omega arith) most

  pub item_uses : (e : State F) (f : Option StoreFault) → StoreStep b d None 0 0 → StoreStep d e f 0 (settle_in d name (content_of m.now.value)) → StoreStep a e f 0 (settle_fields a name fs)
  item_uses e f s t = used_then a d e f (lent_settle a name ms) (settle_fields a name fs) (lent_settle a name (drop i ms)) (settle_in d name (content_of m.now.value)) h
      (omega (arith, s.within_ids, ids)) (omega (arith, s.within_words, words)) t value_most most

  pub words_shown : (e : State F) → StoreStep b d None 0 0 → StoreStep d e None 0 (settle_in d name (content_of m.now.value)) →
      (e.used_ids ≤ a.used_ids) × (e.used_words + lent_settle a name (drop (i + 1) ms) ≤ a.used_words + lent_settle a name ms)
  words_shown e s t = (
    omega (arith, s.within_ids, t.within_ids, ids),
    omega (
      arith,
      s.within_words,
      t.within_words,
      words,
      settle_turn a name ms i m within there,
      settle_in_still a d name h
          (content_of m.now.value) (item_fine a d name h fs fine ms order i m within there),
    ),
  )

  pub words_skipped : b.used_words + lent_settle a name (drop (i + 1) ms) ≤ a.used_words + lent_settle a name ms
  words_skipped = omega (arith, words, settle_turn a name ms i m within there)

-- all members were seen
pub all_uses : {F R : Type 0} (a b : State F) (name : R → ℕ) (fs : Fields R) (ms : List (Bor (Member R))) (n : ℕ) → map lent_entry ms ≡
    ordered (index_in a name) (key_values fs) → Grows a b → b.used_ids ≤ a.used_ids → b.used_words + n ≤ a.used_words + lent_settle a name ms
    → StoreStep a b None 0 (settle_fields a name fs)
all_uses a b name fs ms n order g i u = record {
  grows = g;
  honest = tt;
  within_ids = omega (arith, i);
  within_words = omega (arith, u, lent_settles a name (index_in a name) fs ms order);
}

-- a refusal that is out of memory alone says nothing of the store
pub none_told : {T : Type 0} (r : Result T StoreFault) → IfErr r (λ f. f ≡ Memory) → full_fault_of r ≡ None
none_told (Ok x) h = refl
none_told (Err f) h = ap full_only h
