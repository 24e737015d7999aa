-- Elements in the order of their indexes, as they are seen through a function.
use Rattle.std.proofs.Common.{arith, ◌≡◌, ℕ, zero, suc, ◌+◌, ◌<◌, ◌≤◌, Option, Some, None, List, [], ◌∷◌, ◌++◌, map, length, get_or, take, refl, sym, ap, ◌∙◌, add-one}
use Rattle.std.proofs.Math.Seq.{take-length}
use Rattle.std.specs.declared.cmp.Ordering.{Ordering}
use Rattle.std.specs.declared.cmp.Ordering.TheVariants.{Less, Equal, Greater}
use Rattle.std.specs.Ordering.{nat_cmp, match_ordering}
use Rattle.std.specs.BTreeMap.{insert_entry}
use Rattle.std.specs.Map.{values_of}
use Rattle.js_store.specs.State.{State, Grows}
use Rattle.js_store.proofs.Laws.{text_still}
use Rattle.js_texts.specs.Texts.{Every}
use Rattle.js_item.specs.Contents.{Content, Fields}
use Rattle.js_item.specs.declared.item.Member.{Member}
use Rattle.js_item.specs.Views.{fields_of}
use Rattle.js_item.specs.Fine.{strings_of, KeyFine}
use Rattle.js_object.specs.Keys.{index_of_key, index_in, indexes, others, ordered, key_values, member_entry}
use Rattle.js_object.specs.Steps.{index_entered, put_off}

module _ {Y : Type 0} (index : Y → Option ℕ) where
  indexes_push : (ys : List Y) (y : Y) (es : List (ℕ × Y)) → indexes index (ys ++ y ∷ []) es ≡ index_entered (index y) y (indexes index ys es)
  indexes_push [] y es = refl
  indexes_push (x ∷ ys) y es = indexes_push ys y (index_entered (index x) x es)

  put_behind : (o : Option ℕ) (y : Y) (xs ys : List Y) → put_off o y (xs ++ ys) ≡ put_off o y xs ++ ys
  put_behind (Some n) y xs ys = refl
  put_behind None y xs ys = refl

  others_push : (ys : List Y) (y : Y) → others index (ys ++ y ∷ []) ≡ others index ys ++ put_off (index y) y []
  others_push [] y = refl
  others_push (x ∷ ys) y = ap (λ ks. put_off (index x) x ks) (others_push ys y) ∙ put_behind (index x) x (others index ys) (put_off (index y) y [])

module _ {X Y : Type 0} (see : X → Y) where
  abbrev pub seen_pairs : List (ℕ × X) → List (ℕ × Y)
  seen_pairs es = map (λ e. (e.0, see e.1)) es

  see_match : (o : Ordering) (a b c : List (ℕ × X)) → seen_pairs (match_ordering o a b c) ≡ match_ordering o (seen_pairs a) (seen_pairs b) (seen_pairs c)
  see_match Less a b c = refl
  see_match Equal a b c = refl
  see_match Greater a b c = refl

  see_insert : (es : List (ℕ × X)) (n : ℕ) (x : X) → seen_pairs (insert_entry nat_cmp es n x) ≡ insert_entry nat_cmp (seen_pairs es) n (see x)
  see_insert [] n x = refl
  see_insert (e ∷ es) n x =
      see_match (nat_cmp n e.0) ((n, x) ∷ e ∷ es) ((e.0, x) ∷ es) (e ∷ insert_entry nat_cmp es n x)
      ∙ ap (λ r. match_ordering (nat_cmp n e.0) ((n, see x) ∷ (e.0, see e.1) ∷ seen_pairs es) ((e.0, see x) ∷ seen_pairs es) ((e.0, see e.1) ∷ r)) (see_insert es n x)

  see_entered : (o : Option ℕ) (x : X) (es : List (ℕ × X)) → seen_pairs (index_entered o x es) ≡ index_entered o (see x) (seen_pairs es)
  see_entered (Some n) x es = see_insert es n x
  see_entered None x es = refl

  see_put : (o : Option ℕ) (x : X) (xs : List X) → map see (put_off o x xs) ≡ put_off o (see x) (map see xs)
  see_put (Some n) x xs = refl
  see_put None x xs = refl

  see_both : (xs ys : List X) → map see (xs ++ ys) ≡ map see xs ++ map see ys
  see_both [] ys = refl
  see_both (x ∷ xs) ys = ap (λ r. see x ∷ r) (see_both xs ys)

  see_values : (es : List (ℕ × X)) → map see (values_of es) ≡ values_of (seen_pairs es)
  see_values [] = refl
  see_values (e ∷ es) = ap (λ r. see e.1 ∷ r) (see_values es)

  -- one more element
  pub indexes_turn : (index : Y → Option ℕ) (x : X) (y : Y) (o : Option ℕ) (es fs : List (ℕ × X)) (ys zs : List Y) → see x ≡ y → o ≡ index y
      → seen_pairs es ≡ indexes index ys [] → fs ≡ index_entered o x es → zs ≡ ys ++ y ∷ [] → seen_pairs fs ≡ indexes index zs []
  indexes_turn index x y o es fs ys zs s i e f z = cc (ap seen_pairs f, see_entered o x es, indexes_push index ys y [], ap (λ q. indexes index q []) z)

  pub others_turn : (index : Y → Option ℕ) (x : X) (y : Y) (o : Option ℕ) (ks ls : List X) (ys zs : List Y) → see x ≡ y → o ≡ index y → map
      see ks ≡ others index ys → ls ≡ ks ++ put_off o x [] → zs ≡ ys ++ y ∷ [] → map see ls ≡ others index zs
  others_turn index x y o ks ls ys zs s i k l z = cc (ap (map see) l, see_both ks (put_off o x []), see_put o x [], others_push index ys y, ap (others index) z)

  -- all elements
  pub ordered_end : (index : Y → Option ℕ) (es : List (ℕ × X)) (ks ls : List X) (ys : List Y) → seen_pairs es ≡ indexes index ys [] → map
      see ks ≡ others index ys → ls ≡ ks → map see (values_of es ++ ls) ≡ ordered index ys
  ordered_end index es ks ls ys e k l = cc (see_both (values_of es) ls, see_values es, ap values_of e)

  -- the order is that of what is seen
  indexes_seen : (index : Y → Option ℕ) (xs : List X) (es : List (ℕ × X)) → seen_pairs (indexes (λ x. index (see x)) xs es) ≡ indexes index (map see xs) (seen_pairs es)
  indexes_seen index [] es = refl
  indexes_seen index (x ∷ xs) es = indexes_seen index xs (index_entered (index (see x)) x es) ∙ ap (λ q. indexes index (map see xs) q) (see_entered (index (see x)) x es)

  others_seen : (index : Y → Option ℕ) (xs : List X) → map see (others (λ x. index (see x)) xs) ≡ others index (map see xs)
  others_seen index [] = refl
  others_seen index (x ∷ xs) = see_put (index (see x)) x (others (λ q. index (see q)) xs) ∙ ap (λ r. put_off (index (see x)) (see x) r) (others_seen index xs)

  pub ordered_seen : (index : Y → Option ℕ) (xs : List X) → map see (ordered (λ x. index (see x)) xs) ≡ ordered index (map see xs)
  ordered_seen index xs = ordered_end index (indexes (λ x. index (see x)) xs []) (others (λ x. index (see x)) xs)
      (others (λ x. index (see x)) xs) (map see xs) (indexes_seen index xs []) (others_seen index xs) refl

-- what holds of each element holds of each in the order
module _ {X : Type 0} (P : X → Type 0) where
  every_both : (xs ys : List X) → Every P xs → Every P ys → Every P (xs ++ ys)
  every_both [] ys h k = k
  every_both (x ∷ xs) ys h k = (h.0, every_both xs ys h.1 k)

  every_match : (o : Ordering) (a b c : List (ℕ × X)) → Every (λ e. P e.1) a → Every (λ e. P e.1) b → Every (λ e. P e.1) c → Every (λ e. P e.1) (match_ordering o a b c)
  every_match Less a b c h k l = h
  every_match Equal a b c h k l = k
  every_match Greater a b c h k l = l

  every_insert : (es : List (ℕ × X)) (n : ℕ) (x : X) → P x → Every (λ e. P e.1) es → Every (λ e. P e.1) (insert_entry nat_cmp es n x)
  every_insert [] n x p h = (p, tt)
  every_insert (e ∷ es) n x p h = every_match (nat_cmp n e.0) ((n, x) ∷ e ∷ es) ((e.0, x) ∷ es) (e ∷ insert_entry nat_cmp es n x) (p, h) (p, h.1) (h.0, every_insert es n x p h.1)

  every_entered : (o : Option ℕ) (x : X) (es : List (ℕ × X)) → P x → Every (λ e. P e.1) es → Every (λ e. P e.1) (index_entered o x es)
  every_entered (Some n) x es p h = every_insert es n x p h
  every_entered None x es p h = h

  every_indexes : (index : X → Option ℕ) (xs : List X) (es : List (ℕ × X)) → Every P xs → Every (λ e. P e.1) es → Every (λ e. P e.1) (indexes index xs es)
  every_indexes index [] es h k = k
  every_indexes index (x ∷ xs) es h k = every_indexes index xs (index_entered (index x) x es) h.1 (every_entered (index x) x es h.0 k)

  every_values : (es : List (ℕ × X)) → Every (λ e. P e.1) es → Every P (values_of es)
  every_values [] h = tt
  every_values (e ∷ es) h = (h.0, every_values es h.1)

  every_put : (o : Option ℕ) (x : X) (xs : List X) → P x → Every P xs → Every P (put_off o x xs)
  every_put (Some n) x xs p h = h
  every_put None x xs p h = (p, h)

  every_others : (index : X → Option ℕ) (xs : List X) → Every P xs → Every P (others index xs)
  every_others index [] h = tt
  every_others index (x ∷ xs) h = every_put (index x) x (others index xs) h.0 (every_others index xs h.1)

  pub every_ordered : (index : X → Option ℕ) (xs : List X) → Every P xs → Every P (ordered index xs)
  every_ordered index xs h = every_both (values_of (indexes index xs [])) (others index xs) (every_values (indexes index xs []) (every_indexes index xs [] h tt)) (every_others index xs h)

-- the entries of members
module _ {R : Type 0} where
  pub entries_are : (ms : List (Member R)) → key_values (fields_of ms) ≡ map member_entry ms
  entries_are [] = refl
  entries_are (m ∷ ms) = ap (λ es. member_entry m ∷ es) (entries_are ms)

  entries_to : (ms : List (Member R)) (i : ℕ) (m : Member R) → i < length ms → m ≡ get_or ms i m → map member_entry (take (suc i) ms) ≡ map member_entry (take i ms) ++ member_entry m ∷ []
  entries_to [] i m h e = absurd (omega arith)
  entries_to (n ∷ ms) zero m h e = ap (λ q. member_entry q ∷ []) (sym e)
  entries_to (n ∷ ms) (suc i) m h e = ap (λ es. member_entry n ∷ es) (entries_to ms i m (omega arith) e)

  pub entries_take : (ms : List (Member R)) (i : ℕ) (m : Member R) → i < length ms → m ≡ get_or ms i m → map member_entry (take (i + 1) ms) ≡ map member_entry (take i ms) ++ member_entry m ∷ []
  entries_take ms i m h e = rw add-one (entries_to ms i m h e)

  -- all of them, at the end of a loop
  pub entries_all : (ms : List (Member R)) (fs : Fields R) (i : ℕ) → fields_of ms ≡ fs → length ms ≤ i → i ≤ length ms → map member_entry (take i ms) ≡ key_values fs
  entries_all ms fs i are l m =
      let all : i ≡ length ms = omega arith in
      let whole : take i ms ≡ ms = ap (λ n. take n ms) all ∙ take-length ms in
      ap (map member_entry) whole ∙ sym (entries_are ms) ∙ ap key_values are

-- the index of a key in a store that has grown
pub index_still : {F R : Type 0} (a b : State F) (name : R → ℕ) (g : Grows a b) (e : R × Content R) → KeyFine (strings_of a) (name e.0) → index_in b name e ≡ index_in a name e
index_still a b name g e k = ap index_of_key (text_still g (name e.0) k.known)
