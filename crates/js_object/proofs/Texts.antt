-- The text of an object, member by member.
use Rattle.std.proofs.Common.{arith, ◌≡◌, ℕ, zero, suc, ◌+◌, ◌<◌, ◌≤◌, true, false, Option, Some, None, List, [], ◌∷◌, ◌++◌, map, length, get_or, drop, refl, sym, ap, subst, ◌∙◌, append_assoc}
use Rattle.std.specs.Prelude.{if◌then◌else◌}
use Rattle.std.specs.Borrow.{Bor}
use Rattle.js_store.specs.State.{State, Grows, IsKnown, text as text_of}
use Rattle.js_store.proofs.Laws.{text_still, known_still}
use Rattle.js_item.proofs.Still.{key_still}
use Rattle.js_object.proofs.Readable.{readable_still}
use Rattle.js_texts.specs.Delimited.{rest_of, delimited}
use Rattle.js_texts.specs.Texts.{Every}
use Rattle.js_texts.proofs.Lists.{texts_still, drop_at}
use Rattle.js_json.specs.Quoting.{quoted, list_text}
use Rattle.js_item.specs.Contents.{Content, undefined, null, bool, number, text, symbol, list, object, Fields, no_fields, field, count, count_in}
use Rattle.js_item.specs.declared.item.Member.{Member}
use Rattle.js_item.specs.Views.{content_of}
use Rattle.js_item.specs.Fine.{KnownStrings, strings_of, KeyFine}
use Rattle.js_object.specs.Readable.{Readable, ReadableFields}
use Rattle.js_object.specs.Keys.{index_of_key, index_in, ordered, key_values, lent_entry}
use Rattle.js_object.specs.Json.{is_shown, shown, object_json, text_json, json_members, json_of, braced, closed}
use Rattle.js_object.specs.Steps.{JsonMember}
use Rattle.js_object.specs.Steps.{part_index}
use Rattle.js_item.specs.Seen.{says}
use Rattle.js_object.proofs.Ordered.{ordered_seen, every_ordered}

braced_rest : (us : List (List ℕ)) → braced 0x2C us ≡ rest_of (λ u. u) 0x2C 0x7D us
braced_rest [] = refl
braced_rest (u ∷ us) = ap (λ r. 0x2C ∷ (u ++ r)) (braced_rest us)

braced_is : (us : List (List ℕ)) → braced 0x7B us ≡ 0x7B ∷ delimited (λ u. u) 0x2C 0x7D us
braced_is [] = refl
braced_is (u ∷ us) = ap (λ r. 0x7B ∷ (u ++ r)) (braced_rest us)

-- a unit, a key with its colon and a value's text were added
glue : (t q v b : List ℕ) (sep : ℕ) → ((t ++ (sep ∷ q ++ 0x3A ∷ [])) ++ v) ++ b ≡ t ++ (sep ∷ ((q ++ 0x3A ∷ v) ++ b))
glue t q v b sep = simp append_assoc

module _ {R : Type 0} (say : R → List ℕ) where
  abbrev pub part : R × Content R → JsonMember
  part e = (say e.0, if is_shown e.1 then Some (text_json say e.1) else None)

  parts_are : (fs : Fields R) → json_members say fs ≡ map part (key_values fs)
  parts_are no_fields = refl
  parts_are (field key value rest) = ap (λ ps. part (key, value) ∷ ps) (parts_are rest)

  -- the texts of members that lie in the order of their keys
  abbrev pub lent_shown : List (Bor (Member R)) → List (List ℕ)
  lent_shown ms = shown (map part (map lent_entry ms))

  pub json_ordered : (fs : Fields R) (ms : List (Bor (Member R))) → map lent_entry ms ≡ ordered (λ e. index_of_key (say e.0)) (key_values fs) → braced 0x7B (lent_shown ms) ≡ json_of say fs
  json_ordered fs ms e =
      let order : map part (ordered (λ e. index_of_key (say e.0)) (key_values fs)) ≡ ordered part_index (json_members say fs) = ordered_seen
      part part_index (key_values fs) ∙ ap (ordered part_index) (sym (parts_are fs)) in
      braced_is (lent_shown ms) ∙ ap (λ es. 0x7B ∷ delimited (λ u. u) 0x2C 0x7D (shown es)) (ap (map part) e ∙ order)

  -- a member that is left out, and one that is shown
  pub skip_turn : (t : List ℕ) (sep : ℕ) (ms : List (Bor (Member R))) (i : ℕ) (m : Bor (Member R)) → i < length ms → m ≡ get_or ms i m →
      is_shown (content_of m.now.value) ≡ false → t ++ braced sep (lent_shown (drop (i + 1) ms)) ≡ t ++ braced sep (lent_shown (drop i ms))
  skip_turn t sep ms i m h e o = rw (drop_at ms i m h e, o) refl

  pub show_turn : (t t1 t2 : List ℕ) (sep : ℕ) (ms : List (Bor (Member R))) (i : ℕ) (m : Bor (Member R)) → i < length ms → m ≡ get_or ms i m → is_shown (content_of m.now.value) ≡ true
      → t1 ≡ t ++ (sep ∷ quoted (say m.now.key) ++ 0x3A ∷ []) → t2 ≡ t1 ++ text_json say (content_of m.now.value)
      → t2 ++ braced 0x2C (lent_shown (drop (i + 1) ms)) ≡ t ++ braced sep (lent_shown (drop i ms))
  show_turn t t1 t2 sep ms i m h e o k v =
      let rest = braced 0x2C (lent_shown (drop (i + 1) ms)) in
      let split : lent_shown (drop i ms) ≡ (quoted (say m.now.key) ++ 0x3A ∷ text_json say (content_of m.now.value)) ∷ lent_shown (drop (i + 1) ms) = rw (drop_at ms i m h e, o) refl in
      ap (λ u. u ++ rest) (v ∙ ap (λ u. u ++ text_json say (content_of m.now.value)) k) ∙ glue t (quoted (say m.now.key))
      (text_json say (content_of m.now.value)) rest sep ∙ ap (λ us. t ++ braced sep us) (sym split)

-- the texts stay while the store grows
module _ {F R : Type 0} (a b : State F) (name : R → ℕ) (g : Grows a b) where
  mutual
    pub json_still : (c : Content R) → Readable (strings_of a) name c → text_json (says b name) c ≡ text_json (says a name) c
    json_still undefined h = refl
    json_still null h = refl
    json_still (bool t) h = refl
    json_still (number n) h = refl
    json_still (text r) h = ap quoted (text_still g (name r) h)
    json_still (symbol r) h = refl
    json_still (list rs) h = ap list_text (texts_still name a b rs g h)
    json_still (object fs) h = ap object_json (parts_still fs h)

    pub parts_still : (fs : Fields R) → ReadableFields (strings_of a) name fs → json_members (says b name) fs ≡ json_members (says a name) fs
    parts_still no_fields h = refl
    parts_still (field key value rest) h =
        let k : text_of b (name key) ≡ text_of a (name key) = text_still g (name key) h.0.known in
        let v : text_json (says b name) value ≡ text_json (says a name) value = json_still value h.1 in
        rw (k, v, parts_still rest h.2) refl

-- what the loop over the members knows of each
abbrev pub EntryFine : {R : Type 0} → KnownStrings → (R → ℕ) → ℕ → R × Content R → Type 0
EntryFine s name n e = KeyFine s (name e.0) × Readable s name e.1 × (count_in e.1 < n)

module _ {R : Type 0} (s : KnownStrings) (name : R → ℕ) where
  entries_fine : (n : ℕ) (fs : Fields R) → count fs ≤ n → ReadableFields s name fs → Every (EntryFine s name n) (key_values fs)
  entries_fine n no_fields m h = tt
  entries_fine n (field key value rest) m h = ((h.0, h.1, omega arith), entries_fine n rest (omega arith) h.2)

  pub lent_at : (P : R × Content R → Type 0) (ms : List (Bor (Member R))) (i : ℕ) (m : Bor (Member R)) → i < length ms → m ≡ get_or ms i m → Every P (map lent_entry ms) → P (lent_entry m)
  lent_at P [] i m h e k = absurd (omega arith)
  lent_at P (n ∷ ms) zero m h e k = let Q : Bor (Member R) → Type 0 = λ q. P (lent_entry q) in subst Q (sym e) k.0
  lent_at P (n ∷ ms) (suc i) m h e k = lent_at P ms i m (omega arith) e k.1

  pub lent_fine : (index : R × Content R → Option ℕ) (fs : Fields R) (ms : List (Bor (Member R))) (i : ℕ) (m : Bor (Member R)) →
      ReadableFields s name fs → map lent_entry ms ≡ ordered index (key_values fs) → i < length ms → m ≡ get_or ms i m → EntryFine s name
      (count fs) (lent_entry m)
  lent_fine index fs ms i m h e l p =
      let every : Every (EntryFine s name (count fs)) (ordered index (key_values fs)) = every_ordered (EntryFine s name (count fs)) index
      (key_values fs) (entries_fine (count fs) fs (omega arith) h) in
      lent_at (EntryFine s name (count fs)) ms i m l p (subst (Every (EntryFine s name (count fs))) (sym e) every)

-- a turn of the loop over the members of the object fs, in their order, at the state a when it began and b within it
module _ {F R : Type 0} (a b : State F) (name : R → ℕ) (g : Grows a b) (fs : Fields R) (fine : ReadableFields (strings_of a) name fs) (ms : List (Bor (Member R)))
    (order : map lent_entry ms ≡ ordered (index_in a name) (key_values fs)) (i : ℕ) (m : Bor (Member R)) (within : i < length ms) (there : m ≡ get_or ms i m) where
  here : EntryFine (strings_of a) name (count fs) (lent_entry m)
  here = lent_fine (strings_of a) name (index_in a name) fs ms i m fine order within there

  pub key_fine : KeyFine (strings_of b) (name m.now.key)
  key_fine = key_still a b g (name m.now.key) here.0

  pub item_fine : Readable (strings_of a) name (content_of m.now.value)
  item_fine = here.1

  pub key_ready : IsKnown b (name m.now.key)
  key_ready = known_still g (name m.now.key) here.0.known

  pub item_ready : Readable (strings_of b) name (content_of m.now.value)
  item_ready = readable_still a b g name (content_of m.now.value) here.1

  pub item_smaller : count_in (content_of m.now.value) < count fs
  item_smaller = here.2

  pub turn_shown : (d : State F) → Grows a d → (t t1 t2 : List ℕ) (sep : ℕ) → is_shown (content_of m.now.value) ≡ true → t1 ≡ t ++
      (sep ∷ quoted (text_of b (name m.now.key)) ++ 0x3A ∷ []) → t2 ≡ t1 ++ text_json (says d name) (content_of m.now.value)
      → t2 ++ braced 0x2C (lent_shown (says a name) (drop (i + 1) ms)) ≡ t ++ braced sep (lent_shown (says a name) (drop i ms))
  turn_shown d h t t1 t2 sep o k v =
      show_turn (says a name) t t1 t2 sep ms i m within there o
      (k ∙ ap (λ u. t ++ (sep ∷ quoted u ++ 0x3A ∷ [])) (text_still g (name m.now.key) here.0.known))
      (v ∙ ap (λ u. t1 ++ u) (json_still a d name h (content_of m.now.value) here.1))

-- all members were seen
pub drop_all : {X : Type 0} (xs : List X) (i : ℕ) → length xs ≤ i → drop i xs ≡ []
drop_all [] zero h = refl
drop_all [] (suc i) h = refl
drop_all (x ∷ xs) zero h = absurd (omega arith)
drop_all (x ∷ xs) (suc i) h = drop_all xs i (omega arith)

pub json_end : {R : Type 0} (say : R → List ℕ) (fs : Fields R) (ms : List (Bor (Member R))) (i : ℕ) (t u v : List ℕ) (sep : ℕ) → map
    lent_entry ms ≡ ordered (λ e. index_of_key (say e.0)) (key_values fs) → length ms ≤ i
    → u ++ braced sep (lent_shown say (drop i ms)) ≡ t ++ braced 0x7B (lent_shown say ms) → v ≡ u ++ closed sep → v ≡ t ++ json_of say fs
json_end say fs ms i t u v sep order l e f =
    let none : braced sep (lent_shown say (drop i ms)) ≡ closed sep = ap (λ (q : List (Bor (Member _))). braced sep (lent_shown say q)) (drop_all ms i l) in
    f ∙ ap (λ w. u ++ w) (sym none) ∙ e ∙ ap (λ w. t ++ w) (json_ordered say fs ms order)

pub object_still : {F R : Type 0} (a b : State F) (name : R → ℕ) (fs : Fields R) → Grows a b → ReadableFields (strings_of a) name fs → json_of (says b name) fs ≡ json_of (says a name) fs
object_still a b name fs g h = ap object_json (parts_still a b name g fs h)
