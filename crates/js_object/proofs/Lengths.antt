-- How long the text of an object is, member by member.
use Rattle.std.proofs.Common.{arith, ◌≡◌, ℕ, ◌+◌, ◌*◌, ◌<◌, ◌≤◌, true, false, Option, Some, None, List, [], ◌∷◌, ◌++◌, map, length, get_or, drop, refl, ap, ◌∙◌, length-append}
use Rattle.std.specs.declared.cmp.Ordering.{Ordering}
use Rattle.std.specs.declared.cmp.Ordering.TheVariants.{Less, Equal, Greater}
use Rattle.std.specs.Ordering.{nat_cmp, match_ordering}
use Rattle.std.specs.BTreeMap.{insert_entry}
use Rattle.std.specs.Map.{values_of}
use Rattle.std.specs.Borrow.{Bor}
use Rattle.js_store.specs.State.{State, Grows, text as text_of}
use Rattle.js_store.proofs.Laws.{text_still}
use Rattle.js_texts.proofs.Lists.{drop_at}
use Rattle.js_json.specs.Quoting.{quoted}
use Rattle.js_item.specs.Contents.{Content, Fields, no_fields, field, count, count_in}
use Rattle.js_item.specs.declared.item.Member.{Member}
use Rattle.js_item.specs.Views.{content_of}
use Rattle.js_item.specs.Fine.{strings_of}
use Rattle.js_object.specs.Readable.{ReadableFields}
use Rattle.js_object.specs.Keys.{index_of_key, index_in, indexes, others, ordered, key_values, lent_entry}
use Rattle.js_object.specs.Steps.{index_entered, put_off}
use Rattle.js_object.specs.Json.{is_shown, text_json, json_of, braced}
use Rattle.js_item.specs.Seen.{says}
use Rattle.js_object.proofs.Texts.{lent_shown, json_ordered, json_still, lent_fine, EntryFine, drop_all}

-- the order adds up to no more than the elements, since an element may take the place of one with its index
module _ {X : Type 0} (f : X → ℕ) where
  abbrev pub total : List X → ℕ
  total [] = 0
  total (x ∷ xs) = f x + total xs

  abbrev pairs_total : List (ℕ × X) → ℕ
  pairs_total [] = 0
  pairs_total (e ∷ es) = f e.1 + pairs_total es

  total_both : (xs ys : List X) → total (xs ++ ys) ≡ total xs + total ys
  total_both [] ys = omega arith
  total_both (x ∷ xs) ys = omega (arith, total_both xs ys)

  total_values : (es : List (ℕ × X)) → total (values_of es) ≡ pairs_total es
  total_values [] = refl
  total_values (e ∷ es) = omega (arith, total_values es)

  match_most : (o : Ordering) (a b c : List (ℕ × X)) (n : ℕ) → pairs_total a ≤ n → pairs_total b ≤ n → pairs_total c ≤ n → pairs_total (match_ordering o a b c) ≤ n
  match_most Less a b c n h k l = h
  match_most Equal a b c n h k l = k
  match_most Greater a b c n h k l = l

  insert_most : (es : List (ℕ × X)) (n : ℕ) (x : X) → pairs_total (insert_entry nat_cmp es n x) ≤ f x + pairs_total es
  insert_most [] n x = omega arith
  insert_most (e ∷ es) n x = match_most (nat_cmp n e.0) ((n, x) ∷ e ∷ es) ((e.0, x) ∷ es) (e ∷ insert_entry nat_cmp es n x)
      (f x + pairs_total (e ∷ es)) (omega arith) (omega arith) (omega (arith, insert_most es n x))

  enter_most : (o : Option ℕ) (x : X) (es : List (ℕ × X)) → pairs_total (index_entered o x es) + total (put_off o x []) ≤ f x + pairs_total es
  enter_most (Some n) x es = omega (arith, insert_most es n x)
  enter_most None x es = omega arith

  put_total : (o : Option ℕ) (x : X) (ks : List X) → total (put_off o x ks) ≡ total ks + total (put_off o x [])
  put_total (Some n) x ks = omega arith
  put_total None x ks = omega arith

  both_most : (index : X → Option ℕ) (xs : List X) (es : List (ℕ × X)) → pairs_total (indexes index xs es) + total (others index xs) ≤ pairs_total es + total xs
  both_most index [] es = omega arith
  both_most index (x ∷ xs) es = omega (arith, both_most index xs (index_entered (index x) x es), put_total (index x) x (others index xs), enter_most (index x) x es)

  pub ordered_most : (index : X → Option ℕ) (xs : List X) → total (ordered index xs) ≤ total xs
  ordered_most index xs = omega (arith, total_both (values_of (indexes index xs [])) (others index xs), total_values (indexes index xs []), both_most index xs [])

-- what an entry counts for
abbrev pub weight : {R : Type 0} → R × Content R → ℕ
weight e = count_in e.1 + 1

module _ {R : Type 0} where
  entries_weigh : (fs : Fields R) → total weight (key_values fs) ≡ count fs
  entries_weigh no_fields = refl
  entries_weigh (field key value rest) = omega (arith, entries_weigh rest)

  unfoldable pub lent_weight : List (Bor (Member R)) → ℕ
  lent_weight ms = total weight (map lent_entry ms)

  pub lent_weighs : (index : R × Content R → Option ℕ) (fs : Fields R) (ms : List (Bor (Member R))) → map lent_entry ms ≡ ordered index (key_values fs) → lent_weight ms ≤ count fs
  unfolding lent_weight
  lent_weighs index fs ms e = omega (arith, ap (total weight) e, ordered_most weight index (key_values fs), entries_weigh fs)

  pub weight_turn : (ms : List (Bor (Member R))) (i : ℕ) (m : Bor (Member R)) → i < length ms → m ≡ get_or ms i m → lent_weight (drop i ms)
      ≡ count_in (content_of m.now.value) + 1 + lent_weight (drop (i + 1) ms)
  unfolding lent_weight
  weight_turn ms i m h e = rw (drop_at ms i m h e) refl

-- the units of texts, each with a unit before it
abbrev pub units_of : List (List ℕ) → ℕ
units_of [] = 0
units_of (u ∷ us) = length u + 1 + units_of us

comma_length : (us : List (List ℕ)) → length (braced 0x2C us) ≡ units_of us + 1
comma_length [] = refl
comma_length (u ∷ us) = omega (arith, length-append u (braced 0x2C us), comma_length us)

pub brace_some : (us : List (List ℕ)) → 2 ≤ 1 + units_of us → length (braced 0x7B us) ≡ 1 + units_of us
brace_some [] h = absurd (omega arith)
brace_some (u ∷ us) h = omega (arith, length-append u (braced 0x2C us), comma_length us)

pub brace_none : (us : List (List ℕ)) → 1 + units_of us < 2 → length (braced 0x7B us) ≡ 2
brace_none [] h = refl
brace_none (u ∷ us) h = absurd (omega arith)

-- a turn of the loop over the members of the object fs, in their order, at the state a when it began and b within it
module _ {F R : Type 0} (a b d : State F) (name : R → ℕ) (g : Grows a b) (h : Grows a d) (fs : Fields R) (fine : ReadableFields (strings_of a) name fs) (ms : List (Bor (Member R)))
    (order : map lent_entry ms ≡ ordered (index_in a name) (key_values fs)) (i : ℕ) (m : Bor (Member R)) (within : i < length ms) (there : m ≡ get_or ms i m) where
  here : EntryFine (strings_of a) name (count fs) (lent_entry m)
  here = lent_fine (strings_of a) name (index_in a name) fs ms i m fine order within there

  pub len_shown : (n l key value : ℕ) → is_shown (content_of m.now.value) ≡ true → key ≡ length (quoted (text_of b (name m.now.key))) →
      value ≡ length (text_json (says d name) (content_of m.now.value)) → l ≡ n + (2 + key + value)
      → l + units_of (lent_shown (says a name) (drop (i + 1) ms)) ≡ n + units_of (lent_shown (says a name) (drop i ms))
  len_shown n l key value o k v e =
      let q = quoted (text_of a (name m.now.key)) in
      let u = text_json (says a name) (content_of m.now.value) in
      let split : lent_shown (says a name) (drop i ms) ≡ (q ++ 0x3A ∷ u) ∷ lent_shown (says a name) (drop (i + 1) ms) = rw (drop_at ms i m within there, o) refl in
      let k' : key ≡ length q = k ∙ ap (λ w. length (quoted w)) (text_still g (name m.now.key) here.0.known) in
      let v' : value ≡ length u = v ∙ ap length (json_still a d name h (content_of m.now.value) here.1) in
      omega (arith, ap units_of split, length-append q (0x3A ∷ u), k', v', e)

  pub len_skipped : is_shown (content_of m.now.value) ≡ false → units_of (lent_shown (says a name) (drop (i + 1) ms)) ≡ units_of (lent_shown (says a name) (drop i ms))
  len_skipped o = rw (drop_at ms i m within there, o) refl

  -- what was counted is at most what the members before weigh
  module _ (n : ℕ) (before : n + 158456325028528675187087900672 * lent_weight (drop i ms) ≤ 1 + 158456325028528675187087900672 * lent_weight ms) where
    pub most_shown : (l key value : ℕ) → key ≤ 3221225330 → value + 8589934592 ≤ 158456325028528675187087900672 * (count_in (content_of m.now.value) + 1) → l ≡ n + (2 + key + value)
        → l + 158456325028528675187087900672 * lent_weight (drop (i + 1) ms) ≤ 1 + 158456325028528675187087900672 * lent_weight ms
    most_shown l key value k v e = omega (arith, weight_turn ms i m within there, before, k, v, e)

    pub most_skipped : n + 158456325028528675187087900672 * lent_weight (drop (i + 1) ms) ≤ 1 + 158456325028528675187087900672 * lent_weight ms
    most_skipped = omega (arith, weight_turn ms i m within there, before)

    pub len_fits : (key value : ℕ) → count fs ≤ 65536 → key ≤ 3221225330 → value + 8589934592 ≤ 158456325028528675187087900672 *
        (count_in (content_of m.now.value) + 1) → n + (2 + key + value) < 340282366920938463463374607431768211456
    len_fits key value many k v = omega (arith, weight_turn ms i m within there, before, lent_weighs (index_in a name) fs ms order, many, k, v)

-- all members were seen
module _ {R : Type 0} (say : R → List ℕ) (fs : Fields R) (ms : List (Bor (Member R)))
    (i n : ℕ) (order : map lent_entry ms ≡ ordered (λ e. index_of_key (say e.0)) (key_values fs)) (all : length ms ≤ i)
    (counted : n + units_of (lent_shown say (drop i ms)) ≡ 1 + units_of (lent_shown say ms)) where
  whole : n ≡ 1 + units_of (lent_shown say ms)
  whole = omega (arith, counted, ap (λ (q : List (Bor (Member R))). units_of (lent_shown say q)) (drop_all ms i all))

  pub len_none : n < 2 → 2 ≡ length (json_of say fs)
  len_none l = omega (arith, brace_none (lent_shown say ms) (omega (arith, whole, l)), ap length (json_ordered say fs ms order))

  pub len_some : 2 ≤ n → n ≡ length (json_of say fs)
  len_some l = omega (arith, brace_some (lent_shown say ms) (omega (arith, whole, l)), whole, ap length (json_ordered say fs ms order))
