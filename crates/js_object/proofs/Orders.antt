-- Elements whose indexes differ have one order, and `ordered` gives it.
use Rattle.std.proofs.Common.{inl, inr, arith, ◌≡◌, ℕ, zero, suc, ◌+◌, ◌<◌, ◌≤◌, cond, true, false, Option, Some, None, List, [], ◌∷◌, ◌++◌, map, filter}
use Rattle.std.proofs.Common.{length, get_or, refl, sym, ap, subst, ◌∙◌, Bool}
use Rattle.std.specs.Prelude.{◌⊎◌, IsSome, Contains, bytes_eq}
use Rattle.std.specs.Option.{is_none}
use Rattle.std.specs.List.{IsDistinct, AllByRecursion}
use Rattle.std.specs.declared.cmp.Ordering.{Ordering}
use Rattle.std.specs.declared.cmp.Ordering.TheVariants.{Less, Equal, Greater}
use Rattle.std.specs.Ordering.{nat_cmp, match_ordering, MatchOrdering}
use Rattle.std.specs.Cmp.{ranks}
use Rattle.std.specs.BTreeMap.{insert_entry}
use Rattle.std.specs.Map.{values_of}
use Rattle.std.proofs.lemmas.Slice.Eq.{bytes_eq-Decides}
use Rattle.std.proofs.lemmas.List.{map-id}
use Rattle.js_object.specs.Keys.{index_of_key, key_index, index_in, indexes, others, ordered, key_values, keys_of, own_keys, unit_keys}
use Rattle.js_object.specs.Steps.{index_entered, put_off}
use Rattle.js_store.specs.State.{State, text}
use Rattle.js_texts.specs.Texts.{Every}
use Rattle.js_item.specs.Contents.{Content, Fields, no_fields, field}
use Rattle.js_item.specs.Fine.{strings_of, NoKey, KeysDiffer}
use Rattle.js_object.specs.Steps.{part_index}
use Rattle.js_object.specs.Laws.{standing_keys, KeysInOrder, PartsInOrder}
use Rattle.js_object.proofs.Decimals.{index_means, index_most}
use Rattle.js_object.proofs.Ordered.{ordered_seen}
use Rattle.js_object.specs.Order.{AscendsFrom, IsInOrder, IsTheOrder}

-- an element of a list, by recursion
module _ {X : Type 0} where
  abbrev In : X → List X → Type 0
  In y [] = ⊥
  In y (x ∷ xs) = (x ≡ y) ⊎ In y xs

  contains_in : (xs : List X) (y : X) (k : ℕ) → k < length xs → get_or xs k y ≡ y → In y xs
  contains_in [] y k h e = absurd (omega (arith, h))
  contains_in (x ∷ xs) y zero h e = inl e
  contains_in (x ∷ xs) y (suc k) h e = inr (contains_in xs y k (omega (arith, h)) e)

  in_contains : (xs : List X) (y : X) → In y xs → Contains xs y
  in_contains [] y h = absurd h
  in_contains (x ∷ xs) y (inl e) = (0, omega arith, e)
  in_contains (x ∷ xs) y (inr h) = let c = in_contains xs y h in (suc c.0, omega (arith, c.1), c.2)

  in_of : (xs : List X) (y : X) → Contains xs y → In y xs
  in_of xs y c = contains_in xs y c.0 c.1 c.2

module _ {X : Type 0} (index : X → Option ℕ) where
  some_is : (m n : ℕ) (o : Option ℕ) → o ≡ Some m → o ≡ Some n → m ≡ n
  some_is m n o e f = let s : Some m ≡ Some n = sym e ∙ f in cc

  -- an element of an ascending list
  ascends_at : (xs : List X) (least : ℕ) (y : X) → AscendsFrom index least xs → In y xs → (n : ℕ) × (index y ≡ Some n) × (least ≤ n)
  ascends_at [] least y a h = absurd h
  ascends_at (x ∷ xs) least y a (inl e) = (a.0, ap index (sym e) ∙ a.1, a.2)
  ascends_at (x ∷ xs) least y a (inr h) = let r = ascends_at xs (a.0 + 1) y a.3 h in (r.0, r.1, omega (arith, a.2, r.2))

  -- two ascending lists of the same elements
  head_is : (x y : X) (xs ys : List X) (least : ℕ) → AscendsFrom index least (x ∷ xs) → AscendsFrom index least (y ∷ ys) → In x (y ∷ ys) → In y (x ∷ xs) → x ≡ y
  head_is x y xs ys least a b (inl e) k = sym e
  head_is x y xs ys least a b (inr h) (inl e) = e
  head_is x y xs ys least a b (inr h) (inr k) =
      let p = ascends_at ys (b.0 + 1) x b.3 h in
      let q = ascends_at xs (a.0 + 1) y a.3 k in
      absurd (omega (arith, some_is p.0 a.0 (index x) p.1 a.1, some_is q.0 b.0 (index y) q.1 b.1, p.2, q.2))

  behind : (x y z : X) (xs ys : List X) (least : ℕ) → AscendsFrom index least (x ∷ xs) → x ≡ y → In z xs → In z (y ∷ ys) → In z ys
  behind x y z xs ys least a e h (inr k) = k
  behind x y z xs ys least a e h (inl f) =
      let p = ascends_at xs (a.0 + 1) z a.3 h in
      absurd (omega (arith, some_is p.0 a.0 (index z) p.1 (ap index (sym f ∙ sym e) ∙ a.1), p.2))

  ascending_once : (xs ys : List X) (least : ℕ) → AscendsFrom index least xs → AscendsFrom index least ys → ((z : X) → In z xs → In z ys) → ((z : X) → In z ys → In z xs) → xs ≡ ys
  ascending_once [] [] least a b h k = refl
  ascending_once [] (y ∷ ys) least a b h k = absurd (k y (inl refl))
  ascending_once (x ∷ xs) [] least a b h k = absurd (h x (inl refl))
  ascending_once (x ∷ xs) (y ∷ ys) least a b h k =
      let e : x ≡ y = head_is x y xs ys least a b (h x (inl refl)) (k y (inl refl)) in
      let n : b.0 ≡ a.0 = some_is b.0 a.0 (index y) b.1 (ap index (sym e) ∙ a.1) in
      let b' : AscendsFrom index (a.0 + 1) ys = subst (λ (m : ℕ). AscendsFrom index (m + 1) ys) n b.3 in
      let tails : xs ≡ ys = ascending_once xs ys (a.0 + 1) a.3 b'
      (λ z i. behind x y z xs ys least a e i (h z (inr i)))
      (λ z i. behind y x z ys xs least b (sym e) i (k z (inr i))) in
      cc

  -- entries in ascending order, each with the index of its element
  abbrev EntriesFrom : ℕ → List (ℕ × X) → Type 0
  EntriesFrom least [] = Unit {0}
  EntriesFrom least (e ∷ es) = (index e.1 ≡ Some e.0) × (least ≤ e.0) × EntriesFrom (e.0 + 1) es

  entries_ascend : (es : List (ℕ × X)) (least : ℕ) → EntriesFrom least es → AscendsFrom index least (values_of es)
  entries_ascend [] least h = tt
  entries_ascend (e ∷ es) least h = (e.0, h.0, h.1, entries_ascend es (e.0 + 1) h.2)

  -- no entry has the number
  abbrev Fresh : ℕ → List (ℕ × X) → Type 0
  Fresh n [] = Unit {0}
  Fresh n (e ∷ es) = (e.0 ≡ n → ⊥) × Fresh n es

  fresh_match : (o : Ordering) (m : ℕ) (a b c : List (ℕ × X)) → Fresh m a → Fresh m b → Fresh m c → Fresh m (match_ordering o a b c)
  fresh_match Less m a b c h k l = h
  fresh_match Equal m a b c h k l = k
  fresh_match Greater m a b c h k l = l

  fresh_insert : (es : List (ℕ × X)) (m n : ℕ) (x : X) → (n ≡ m → ⊥) → Fresh m es → Fresh m (insert_entry nat_cmp es n x)
  fresh_insert [] m n x h k = (h, tt)
  fresh_insert (e ∷ es) m n x h k = fresh_match (nat_cmp n e.0) m ((n, x) ∷ e ∷ es) ((e.0, x) ∷ es) (e ∷ insert_entry nat_cmp es n x) (h, k) k (k.0, fresh_insert es m n x h k.1)

  -- an entry that is put in where its number is fresh
  from_match : (o : Ordering) (least n : ℕ) (x : X) (e : ℕ × X) (es fs : List (ℕ × X)) → MatchOrdering o (n < e.0) (n ≡ e.0) (e.0 < n) →
      (e.0 ≡ n → ⊥) → index x ≡ Some n → least ≤ n → EntriesFrom least (e ∷ es) → (e.0 + 1 ≤ n → EntriesFrom (e.0 + 1) fs) → EntriesFrom least
      (match_ordering o ((n, x) ∷ e ∷ es) ((e.0, x) ∷ es) (e ∷ fs))
  from_match Less least n x e es fs r f i l h k = (i, l, (h.0, omega (arith, r), h.2))
  from_match Equal least n x e es fs r f i l h k = absurd (f (sym r))
  from_match Greater least n x e es fs r f i l h k = (h.0, h.1, k (omega (arith, r)))

  from_insert : (es : List (ℕ × X)) (least n : ℕ) (x : X) → index x ≡ Some n → least ≤ n → Fresh n es → EntriesFrom least es → EntriesFrom least (insert_entry nat_cmp es n x)
  from_insert [] least n x i l f h = (i, l, tt)
  from_insert (e ∷ es) least n x i l f h = from_match (nat_cmp n e.0) least n x e es (insert_entry nat_cmp es n x) (ranks n e.0) f.0 i l h (λ m. from_insert es (e.0 + 1) n x i m f.1 h.2)

  -- the elements are that one and those before
  into_match : (o : Ordering) (n : ℕ) (x y : X) (e : ℕ × X) (es fs : List (ℕ × X)) → MatchOrdering o (n < e.0) (n ≡ e.0) (e.0 < n) →
      (e.0 ≡ n → ⊥) → (x ≡ y) ⊎ In y (values_of (e ∷ es)) → ((x ≡ y) ⊎ In y (values_of es) → In y (values_of fs)) → In y
      (values_of (match_ordering o ((n, x) ∷ e ∷ es) ((e.0, x) ∷ es) (e ∷ fs)))
  into_match Less n x y e es fs r f h k = h
  into_match Equal n x y e es fs r f h k = absurd (f (sym r))
  into_match Greater n x y e es fs r f (inl h) k = inr (k (inl h))
  into_match Greater n x y e es fs r f (inr (inl h)) k = inl h
  into_match Greater n x y e es fs r f (inr (inr h)) k = inr (k (inr h))

  into_insert : (es : List (ℕ × X)) (n : ℕ) (x y : X) → Fresh n es → (x ≡ y) ⊎ In y (values_of es) → In y (values_of (insert_entry nat_cmp es n x))
  into_insert [] n x y f h = h
  into_insert (e ∷ es) n x y f h = into_match (nat_cmp n e.0) n x y e es (insert_entry nat_cmp es n x) (ranks n e.0) f.0 h (into_insert es n x y f.1)

  out_match : (o : Ordering) (n : ℕ) (x y : X) (e : ℕ × X) (es fs : List (ℕ × X)) → In y
      (values_of (match_ordering o ((n, x) ∷ e ∷ es) ((e.0, x) ∷ es) (e ∷ fs))) → (In y (values_of fs) → (x ≡ y) ⊎ In y (values_of es)) →
      (x ≡ y) ⊎ In y (values_of (e ∷ es))
  out_match Less n x y e es fs h k = h
  out_match Equal n x y e es fs (inl h) k = inl h
  out_match Equal n x y e es fs (inr h) k = inr (inr h)
  out_match Greater n x y e es fs (inl h) k = inr (inl h)
  out_match Greater n x y e es fs (inr h) k = elim (k h) [ inl p ↦ inl p | inr p ↦ inr (inr p) ]

  out_insert : (es : List (ℕ × X)) (n : ℕ) (x y : X) → In y (values_of (insert_entry nat_cmp es n x)) → (x ≡ y) ⊎ In y (values_of es)
  out_insert [] n x y h = h
  out_insert (e ∷ es) n x y h = out_match (nat_cmp n e.0) n x y e es (insert_entry nat_cmp es n x) h (out_insert es n x y)

  -- elements with an index have different ones
  abbrev Others : Option ℕ → List X → Type 0
  Others o [] = Unit {0}
  Others o (x ∷ xs) = ((n : ℕ) → o ≡ Some n → index x ≡ Some n → ⊥) × Others o xs

  abbrev pub IndexesDiffer : List X → Type 0
  IndexesDiffer [] = Unit {0}
  IndexesDiffer (x ∷ xs) = Others (index x) xs × IndexesDiffer xs

  -- no entry has the index of one of them
  abbrev AllFresh : List X → List (ℕ × X) → Type 0
  AllFresh [] es = Unit {0}
  AllFresh (x ∷ xs) es = ((n : ℕ) → index x ≡ Some n → Fresh n es) × AllFresh xs es

  fresh_none : (xs : List X) → AllFresh xs []
  fresh_none [] = tt
  fresh_none (x ∷ xs) = (λ n e. tt, fresh_none xs)

  fresh_after : (xs : List X) (o : Option ℕ) (x : X) (es : List (ℕ × X)) → Others o xs → AllFresh xs es → AllFresh xs (index_entered o x es)
  fresh_after [] o x es d h = tt
  fresh_after (y ∷ ys) None x es d h = h
  fresh_after (y ∷ ys) (Some n) x es d h = (λ m e. fresh_insert es m n x (λ f. d.0 n refl (e ∙ ap Some (sym f))) (h.0 m e), fresh_after ys (Some n) x es d.1 h.1)

  -- an element that is entered, or not
  record Entered (x : X) (es fs : List (ℕ × X)) : Type 0 where
    from : EntriesFrom 0 fs
    into : (y : X) → ((x ≡ y) × IsSome (index y)) ⊎ In y (values_of es) → In y (values_of fs)
    out : (y : X) → In y (values_of fs) → ((x ≡ y) × IsSome (index y)) ⊎ In y (values_of es)

  IsSome-is : (n : ℕ) (o : Option ℕ) → o ≡ Some n → IsSome o
  IsSome-is n (Some m) e = refl
  IsSome-is n None e = cc

  IsSome-not : (o : Option ℕ) → o ≡ None → IsSome o → ⊥
  IsSome-not (Some m) e h = cc
  IsSome-not None e h = cc

  enter : (o : Option ℕ) (x : X) (es : List (ℕ × X)) → index x ≡ o → ((n : ℕ) → index x ≡ Some n → Fresh n es) → EntriesFrom 0 es → Entered x es (index_entered o x es)
  enter None x es i f h = record {
    from = h;
    into = λ y k. elim k [ inl p ↦ absurd (IsSome-not (index y) (ap index (sym p.0) ∙ i) p.1) | inr p ↦ p ];
    out = λ y k. inr k;
  }
  enter (Some n) x es i f h = record {
    from = from_insert es 0 n x i (omega arith) (f n i) h;
    into = λ y k. into_insert es n x y (f n i) (elim k [ inl p ↦ inl p.0 | inr p ↦ inr p ]);
    out = λ y k. elim (out_insert es n x y k) [ inl p ↦ inl (p, IsSome-is n (index y) (ap index (sym p) ∙ i)) | inr p ↦ inr p ];
  }

  -- all elements are entered
  record Sorted (xs : List X) (es fs : List (ℕ × X)) : Type 0 where
    from : EntriesFrom 0 fs
    into : (y : X) → (In y xs × IsSome (index y)) ⊎ In y (values_of es) → In y (values_of fs)
    out : (y : X) → In y (values_of fs) → (In y xs × IsSome (index y)) ⊎ In y (values_of es)

  sorted : (xs : List X) (es : List (ℕ × X)) → IndexesDiffer xs → AllFresh xs es → EntriesFrom 0 es → Sorted xs es (indexes index xs es)
  sorted [] es d f h = record { from = h; into = λ y k. elim k [ inl p ↦ absurd p.0 | inr p ↦ p ]; out = λ y k. inr k }
  sorted (x ∷ xs) es d f h =
      let one = enter (index x) x es refl f.0 h in
      let rest = sorted xs (index_entered (index x) x es) d.1 (fresh_after xs (index x) x es d.0 f.1) one.from in
      record {
        from = rest.from;
        into = λ y k. rest.into y (elim k [ inl p ↦ elim p.0 [ inl e ↦ inr (one.into y (inl (e, p.1))) | inr i ↦ inl (i, p.1) ] | inr p ↦ inr (one.into y (inr p)) ]);
        out = λ y k. elim (rest.out y k) [ inl p ↦ inl (inr p.0, p.1) | inr p ↦ elim (one.out y p) [ inl q ↦ inl (inl q.0, q.1) | inr q ↦ inr q ] ];
      }

  others_are : (xs : List X) → others index xs ≡ filter (λ x. is_none (index x)) xs
  others_are [] = refl
  others_are (x ∷ xs) = put_is (index x) x (others index xs) ∙ ap (λ ys. cond (is_none (index x)) (x ∷ ys) ys) (others_are xs)
    where
      put_is : (o : Option ℕ) (x : X) (ys : List X) → put_off o x ys ≡ cond (is_none o) (x ∷ ys) ys
      put_is (Some n) x ys = refl
      put_is None x ys = refl

  in_order : (xs : List X) → IndexesDiffer xs → IsInOrder index xs (ordered index xs)
  in_order xs d =
      let all = sorted xs [] d (fresh_none xs) tt in
      let first = values_of (indexes index xs []) in
      record {
        first = first;
        ascends = entries_ascend (indexes index xs []) 0 all.from;
        indexed = λ x. (λ c. elim (all.out x (in_of first x c)) [ inl p ↦ (in_contains xs x p.0, p.1) | inr p ↦ absurd p ], λ p. in_contains first x (all.into x (inl (in_of xs x p.0, p.1))));
        split = ap (λ ys. first ++ ys) (others_are xs);
      }

  one_order : (xs ys zs : List X) → IsInOrder index xs ys → IsInOrder index xs zs → zs ≡ ys
  one_order xs ys zs a b =
      let same : b.first ≡ a.first = ascending_once b.first a.first 0 b.ascends a.ascends
      (λ z i. in_of a.first z ((a.indexed z).1 ((b.indexed z).0 (in_contains b.first z i))))
      (λ z i. in_of b.first z ((b.indexed z).1 ((a.indexed z).0 (in_contains a.first z i)))) in
      b.split ∙ ap (λ q. q ++ filter (λ x. is_none (index x)) xs) same ∙ sym a.split

  pub the_order : (xs : List X) → IndexesDiffer xs → IsTheOrder index xs (ordered index xs)
  the_order xs d = record { in_order = in_order xs d; alone = λ zs o. one_order xs (ordered index xs) zs (in_order xs d) o }

-- units of keys that differ are different indexes
index_apart : (u v : List ℕ) → (v ≡ u → ⊥) → (n : ℕ) → index_of_key u ≡ Some n → index_of_key v ≡ Some n → ⊥
index_apart u v h n e f =
    let l : n ≤ 4294967294 = index_most u n e in
    h ((index_means v n l).0 f ∙ sym ((index_means u n l).0 e))

-- where keys are told by their units
module _ {X : Type 0} (units : X → List ℕ) where
  abbrev unit_index : X → Option ℕ
  unit_index x = index_of_key (units x)

  apart_distinct : (x : X) (xs : List X) → AllByRecursion (λ y. bytes_eq (units x) y ≡ false) (map units xs) → Others unit_index (unit_index x) xs
  apart_distinct x [] h = tt
  apart_distinct x (y ∷ ys) h = (index_apart (units x) (units y) (λ e. (let t : false ≡ true = sym h.0 ∙ (bytes_eq-Decides (units x) (units y)).1 (sym e) in cc)), apart_distinct x ys h.1)

  pub distinct_differ : (xs : List X) → IsDistinct bytes_eq (map units xs) → IndexesDiffer unit_index xs
  unfolding IsDistinct
  distinct_differ [] h = tt
  distinct_differ (x ∷ xs) h = (apart_distinct x xs h.0, distinct_differ xs h.1)

-- the keys of an object of units, and the parts of its text
pub keys_in_order : KeysInOrder
keys_in_order fs h =
    let us = standing_keys fs in
    let same : unit_keys fs ≡ ordered index_of_key us = ordered_seen (λ e. e.0) index_of_key (key_values fs) in
    let d : IndexesDiffer index_of_key us = distinct_differ (λ u. u) us (subst (IsDistinct bytes_eq) (sym (map-id us)) h) in
    subst (IsTheOrder index_of_key us) (sym same) (the_order index_of_key us d)

pub parts_in_order : PartsInOrder
parts_in_order ps h = the_order part_index ps (distinct_differ (λ p. p.0) ps h)

-- the keys and the members of an object in a store
module _ {F R : Type 0} (s : State F) (name : R → ℕ) where
  no_key_others : (u : List ℕ) (fs : Fields R) → NoKey (strings_of s) name u fs → Others (key_index s name) (index_of_key u) (keys_of (key_values fs))
  no_key_others u no_fields h = tt
  no_key_others u (field k v rest) h = (index_apart u (text s (name k)) h.0, no_key_others u rest h.1)

  keys_differ : (fs : Fields R) → KeysDiffer (strings_of s) name fs → IndexesDiffer (key_index s name) (keys_of (key_values fs))
  keys_differ no_fields h = tt
  keys_differ (field k v rest) h = (no_key_others (text s (name k)) rest h.0, keys_differ rest h.1)

  no_member_others : (u : List ℕ) (fs : Fields R) → NoKey (strings_of s) name u fs → Others (index_in s name) (index_of_key u) (key_values fs)
  no_member_others u no_fields h = tt
  no_member_others u (field k v rest) h = (index_apart u (text s (name k)) h.0, no_member_others u rest h.1)

  members_differ : (fs : Fields R) → KeysDiffer (strings_of s) name fs → IndexesDiffer (index_in s name) (key_values fs)
  members_differ no_fields h = tt
  members_differ (field k v rest) h = (no_member_others (text s (name k)) rest h.0, members_differ rest h.1)

  pub own_keys_order : (fs : Fields R) (ks : List R) → ks ≡ own_keys s name fs → KeysDiffer (strings_of s) name fs → IsTheOrder (key_index s name) (keys_of (key_values fs)) ks
  own_keys_order fs ks e d =
      let same : ks ≡ ordered (key_index s name) (keys_of (key_values fs)) = e ∙ ordered_seen (λ m. m.0) (key_index s name) (key_values fs) in
      subst (IsTheOrder (key_index s name) (keys_of (key_values fs))) (sym same) (the_order (key_index s name) (keys_of (key_values fs)) (keys_differ fs d))

  pub members_order : (fs : Fields R) (ms : List (R × Content R)) → ms ≡ ordered (index_in s name) (key_values fs) → KeysDiffer (strings_of s) name fs → IsTheOrder (index_in s name) (key_values fs) ms
  members_order fs ms e d = subst (IsTheOrder (index_in s name) (key_values fs)) (sym e) (the_order (index_in s name) (key_values fs) (members_differ fs d))

  pub members_in_order : (fs : Fields R) (ms : List (R × Content R)) → ms ≡ ordered (index_in s name) (key_values fs) → KeysDiffer
      (strings_of s) name fs → IsInOrder (index_in s name) (key_values fs) ms
  members_in_order fs ms e d = (members_order fs ms e d).in_order

-- what holds of each element in the order holds of each one
module _ {X : Type 0} (P : X → Type 0) (index : X → Option ℕ) where
  every_from : (ys : List X) → ((x : X) → In x ys → P x) → Every P ys
  every_from [] h = tt
  every_from (y ∷ ys) h = (h y (inl refl), every_from ys (λ x i. h x (inr i)))

  every_to : (ys : List X) → Every P ys → (x : X) → In x ys → P x
  every_to [] h x i = absurd i
  every_to (y ∷ ys) h x (inl e) = subst P e h.0
  every_to (y ∷ ys) h x (inr i) = every_to ys h.1 x i

  in_left : (xs ys : List X) (x : X) → In x xs → In x (xs ++ ys)
  in_left [] ys x i = absurd i
  in_left (z ∷ xs) ys x (inl e) = inl e
  in_left (z ∷ xs) ys x (inr i) = inr (in_left xs ys x i)

  in_right : (xs ys : List X) (x : X) → In x ys → In x (xs ++ ys)
  in_right [] ys x i = i
  in_right (z ∷ xs) ys x i = inr (in_right xs ys x i)

  in_filter : (xs : List X) (x : X) → is_none (index x) ≡ true → In x xs → In x (filter (λ q. is_none (index q)) xs)
  in_filter [] x e i = absurd i
  in_filter (z ∷ xs) x e (inl f) = head (is_none (index z)) (ap (λ q. is_none (index q)) f ∙ e)
    where
      head : (b : Bool) → b ≡ true → In x (cond b (z ∷ filter (λ q. is_none (index q)) xs) (filter (λ q. is_none (index q)) xs))
      head true t = inl f
      head false t = cc
  in_filter (z ∷ xs) x e (inr i) = pick (is_none (index z)) (in_filter xs x e i)
    where
      pick : (b : Bool) → In x (filter (λ q. is_none (index q)) xs) → In x (cond b (z ∷ filter (λ q. is_none (index q)) xs) (filter (λ q. is_none (index q)) xs))
      pick true h = inr h
      pick false h = h

  split_on : (o : Option ℕ) → (is_none o ≡ true) ⊎ IsSome o
  split_on (Some n) = inr refl
  split_on None = inl refl

  pub every_in_order : (xs ys : List X) → IsInOrder index xs ys → Every P ys → Every P xs
  every_in_order xs ys o h =
      let all : Every P (o.first ++ filter (λ q. is_none (index q)) xs) = subst (Every P) o.split h in
      every_from xs (λ x i. every_to (o.first ++ filter (λ q. is_none (index q)) xs) all x (elim (split_on (index x)) [
        | inl n ↦ in_right o.first (filter (λ q. is_none (index q)) xs) x (in_filter xs x n i)
        | inr k ↦ in_left o.first (filter (λ q. is_none (index q)) xs) x (in_of o.first x ((o.indexed x).1 (in_contains xs x i, k)))
      ]))
