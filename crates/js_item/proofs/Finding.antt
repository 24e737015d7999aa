-- The place of a key among members.
use Rattle.std.proofs.Common.{inl, inr, ◌≡◌, ℕ, zero, suc, ◌+◌, ◌<◌, Bool, true, false, IsTrue, Option, Some, None, List, [], ◌∷◌, length, get_or, take, refl, sym, ap, subst, ◌∙◌, arith, add-one}
use Rattle.std.specs.Prelude.{◌⊎◌, bytes_eq, ◌↔◌, if◌then◌else◌}
use Rattle.std.proofs.lemmas.Slice.Eq.{bytes_eq-Decides}
use Rattle.js_store.specs.State.{State, Grows, text}
use Rattle.js_store.proofs.Laws.{text_still}
use Rattle.js_item.specs.Contents.{Content, Fields, no_fields, field, add}
use Rattle.js_item.proofs.Still.{key_still}
use Rattle.js_item.specs.declared.item.Member.{Member}
use Rattle.js_item.specs.Views.{content_of, fields_of}
use Rattle.js_item.specs.Fine.{KnownStrings, strings_of, units_at, KeyFine, NoKey, KeysFine, KeysDiffer}
use Rattle.js_item.specs.Puts.{width, one_on, place_by, value_by, put_by, has_units, with_value}

pub none_head : (b : Bool) (o : Option ℕ) → (if b then Some 0 else one_on o) ≡ None → (b ≡ false) × (o ≡ None)
none_head true o e = cc
none_head false None e = (refl, refl)
none_head false (Some n) e = cc

if_true : (b : Bool) (o : Option ℕ) → b ≡ true → (if b then Some 0 else one_on o) ≡ Some 0
if_true true o e = refl
if_true false o e = cc

pub if_false : (b : Bool) (o p : Option ℕ) → b ≡ false → o ≡ p → (if b then Some 0 else one_on o) ≡ one_on p
if_false true o p e f = cc
if_false false o p e f = ap one_on f

module _ {R : Type 0} (is : R → Bool) where
  -- one more member whose key isn't so
  pub place_more : (ms : List (Member R)) (i : ℕ) (m : Member R) → i < length ms → m ≡ get_or ms i m → place_by is (fields_of (take i ms)) ≡
      None → is m.key ≡ false → place_by is (fields_of (take (suc i) ms)) ≡ None
  place_more [] i m h e o b = absurd (omega arith)
  place_more (n ∷ ms) zero m h e o b = let same : is n.key ≡ false = ap (λ (p : Member R). is p.key) (sym e) ∙ b in if_false (is n.key) None None same refl
  place_more (n ∷ ms) (suc i) m h e o b =
      let head = none_head (is n.key) (place_by is (fields_of (take i ms))) o in
      if_false (is n.key) (place_by is (fields_of (take (suc i) ms))) None head.0 (place_more ms i m (omega arith) e head.1 b)

  -- the first one whose key is so
  pub place_here : (ms : List (Member R)) (i : ℕ) (m : Member R) → i < length ms → m ≡ get_or ms i m → place_by is (fields_of (take i ms)) ≡
      None → is m.key ≡ true → place_by is (fields_of ms) ≡ Some i
  place_here [] i m h e o b = absurd (omega arith)
  place_here (n ∷ ms) zero m h e o b = let same : is n.key ≡ true = ap (λ (p : Member R). is p.key) (sym e) ∙ b in if_true (is n.key) (place_by is (fields_of ms)) same
  place_here (n ∷ ms) (suc i) m h e o b =
      let head = none_head (is n.key) (place_by is (fields_of (take i ms))) o in
      if_false (is n.key) (place_by is (fields_of ms)) (Some i) head.0 (place_here ms i m (omega arith) e head.1 b)

pub width_is : {R : Type 0} (ms : List (Member R)) → width (fields_of ms) ≡ length ms
width_is [] = refl
width_is (m ∷ ms) = omega (arith, width_is ms)

pub keys_at : {R : Type 0} (s : KnownStrings) (name : R → ℕ) (ms : List (Member R)) (i : ℕ) (m : Member R) → i < length ms → m ≡ get_or ms i m → KeysFine s name (fields_of ms) → KeyFine s (name m.key)
keys_at s name [] i m h e k = absurd (omega arith)
keys_at s name (n ∷ ms) zero m h e k = let P : Member _ → Type 0 = λ p. KeyFine s (name p.key) in subst P (sym e) k.0
keys_at s name (n ∷ ms) (suc i) m h e k = keys_at s name ms i m (omega arith) e k.1

pub false_unless : (b : Bool) → (b ≡ true → false ≡ true) → b ≡ false
false_unless true h = sym (h refl)
false_unless false h = refl

same_is : (r : Bool) (u w : List ℕ) → (IsTrue r ↔ (u ≡ w)) → r ≡ bytes_eq u w
same_is true u w h = sym ((bytes_eq-Decides u w).1 (h.0 refl))
same_is false u w h = sym (false_unless (bytes_eq u w) (λ e. h.1 ((bytes_eq-Decides u w).0 e)))

-- what `same` answered in a store that had grown
pub told_units : {F R : Type 0} (a b : State F) (name : R → ℕ) (g : Grows a b) (key r : R) (t : Bool) → KeyFine (strings_of a) (name key) →
    KeyFine (strings_of a) (name r) → (IsTrue t ↔ (text b (name r) ≡ text b (name key))) → has_units a name (text a (name key)) r ≡ t
told_units a b name g key r t k l e =
    let s : t ≡ bytes_eq (text b (name r)) (text b (name key)) = same_is t (text b (name r)) (text b (name key)) e in
    cc (text_still g (name key) k.known, text_still g (name r) l.known)

-- a member that has the key is the first one that has it, since keys differ
pub no_key_at : {R : Type 0} (s : KnownStrings) (name : R → ℕ) (u : List ℕ) (ms : List (Member R)) (i : ℕ) (m : Member R) → i < length ms → m ≡
    get_or ms i m → NoKey s name u (fields_of ms) → units_at s (name m.key) ≡ u → ⊥
no_key_at s name u [] i m h e k = absurd (omega arith)
no_key_at s name u (n ∷ ms) zero m h e k = let P : Member _ → Type 0 = λ p. units_at s (name p.key) ≡ u → ⊥ in subst P (sym e) k.0
no_key_at s name u (n ∷ ms) (suc i) m h e k = no_key_at s name u ms i m (omega arith) e k.1

other_key : (u v w : List ℕ) → (v ≡ u → ⊥) → bytes_eq v w ≡ true → bytes_eq u w ≡ false
other_key u v w n e = false_unless (bytes_eq u w) (λ t. absurd (n ((bytes_eq-Decides v w).0 e ∙ sym ((bytes_eq-Decides u w).0 t))))

module _ {R : Type 0} (s : KnownStrings) (name : R → ℕ) (w : List ℕ) where
  abbrev named : R → Bool
  named r = bytes_eq (units_at s (name r)) w

  pub place_only : (ms : List (Member R)) (i : ℕ) (m : Member R) → i < length ms → m ≡ get_or ms i m → KeysDiffer s name (fields_of ms) → named m.key ≡ true → place_by named (fields_of ms) ≡ Some i
  place_only [] i m h e d b = absurd (omega arith)
  place_only (n ∷ ms) zero m h e d b = let same : named n.key ≡ true = ap (λ (p : Member R). named p.key) (sym e) ∙ b in if_true (named n.key) (place_by named (fields_of ms)) same
  place_only (n ∷ ms) (suc i) m h e d b =
      let apart : units_at s (name m.key) ≡ units_at s (name n.key) → ⊥ = no_key_at s name (units_at s (name n.key)) ms i m (omega arith) e d.0 in
      if_false (named n.key) (place_by named (fields_of ms)) (Some i) (other_key (units_at s (name n.key)) (units_at s (name m.key)) w apart b) (place_only ms i m (omega arith) e d.1 b)

-- the place of a key stays while the store grows
module _ {F R : Type 0} (a b : State F) (name : R → ℕ) (g : Grows a b) (key : R) (k : KeyFine (strings_of a) (name key)) where
  pub place_still : (fs : Fields R) → KeysFine (strings_of a) name fs → place_by (has_units b name (text b (name key))) fs ≡ place_by (has_units a name (text a (name key))) fs
  place_still no_fields h = refl
  place_still (field l v rest) h = rw (text_still g (name l) h.0.known, text_still g (name key) k.known, place_still rest h.1) refl

-- the member at a place that an index told, in the object fs
module _ {F R : Type 0} (a : State F) (name : R → ℕ) (fs : Fields R) (ms : List (Member R)) (are : fields_of ms ≡ fs) (i : ℕ) (m : Member R) (within : i < length ms) (there : m ≡ get_or ms i m) where
  pub key_there : KeysFine (strings_of a) name fs → KeyFine (strings_of a) (name (get_or ms i m).key)
  key_there keys =
      let P : Fields R → Type 0 = λ f. KeysFine (strings_of a) name f in
      let Q : Member R → Type 0 = λ q. KeyFine (strings_of a) (name q.key) in
      subst Q there (keys_at (strings_of a) name ms i m within there (subst P (sym are) keys))

  pub place_there : (key : R) (t : Bool) → KeysDiffer (strings_of a) name fs →
      (IsTrue t ↔ (text a (name (get_or ms i m).key) ≡ text a (name key))) → t ≡ true → place_by (has_units a name (text a (name key))) fs ≡ Some i
  place_there key t differ e y =
      let P : Fields R → Type 0 = λ f. KeysDiffer (strings_of a) name f in
      let u = text a (name key) in
      let same : text a (name m.key) ≡ u = ap (λ (q : Member R). text a (name q.key)) there ∙ e.0 y in
      sym (ap (λ f. place_by (has_units a name u) f) are)
      ∙ place_only (strings_of a) name u ms i m within there (subst P (sym are) differ) ((bytes_eq-Decides (text a (name m.key)) u).1 same)

-- a turn of a search for a key, at the state a when it began and b within it; the members are those of the object fs
module _ {F R : Type 0} (a b : State F) (name : R → ℕ) (g : Grows a b) (fs : Fields R) (ms : List (Member R)) (are : fields_of ms ≡ fs) (keys : KeysFine (strings_of a) name fs)
    (i : ℕ) (m : Member R) (within : i < length ms) (there : m ≡ get_or ms i m) where
  pub first_fine : KeyFine (strings_of a) (name m.key)
  first_fine = let P : Fields R → Type 0 = λ f. KeysFine (strings_of a) name f in keys_at (strings_of a) name ms i m within there (subst P (sym are) keys)

  pub now_fine : KeyFine (strings_of b) (name m.key)
  now_fine = key_still a b g (name m.key) first_fine

  pub place_fits : width fs < 4294967296 → i < 4294967296
  place_fits h = let w : width (fields_of ms) ≡ width fs = ap width are in omega (arith, w, width_is ms, h, within)

  module _ (key : R) (t : Bool) (k : KeyFine (strings_of a) (name key)) (none : place_by (has_units a name (text a (name key))) (fields_of (take i ms)) ≡ None)
      (e : IsTrue t ↔ (text b (name m.key) ≡ text b (name key))) where
    told : has_units a name (text a (name key)) m.key ≡ t
    told = told_units a b name g key m.key t k first_fine e

    pub turn_found : t ≡ true → Some i ≡ place_by (has_units a name (text a (name key))) fs
    turn_found y =
        let is = has_units a name (text a (name key)) in
        sym (sym (ap (λ f. place_by is f) are) ∙ place_here is ms i m within there none (told ∙ y))

    pub turn_on : t ≡ false → place_by (has_units a name (text a (name key))) (fields_of (take (i + 1) ms)) ≡ None
    turn_on n = rw add-one (place_more (has_units a name (text a (name key))) ms i m within there none (told ∙ n))

-- the same where the key was compared with units
module _ {F R : Type 0} (a b : State F) (name : R → ℕ) (g : Grows a b) (fs : Fields R) (ms : List (Member R)) (are : fields_of ms ≡ fs) (keys : KeysFine (strings_of a) name fs)
    (i : ℕ) (m : Member R) (within : i < length ms) (there : m ≡ get_or ms i m) (units : List ℕ) (t : Bool)
    (none : place_by (has_units a name units) (fields_of (take i ms)) ≡ None) (e : t ≡ bytes_eq (text b (name m.key)) units) where
  told_by : has_units a name units m.key ≡ t
  told_by = ap (λ u. bytes_eq u units) (sym (text_still g (name m.key) (first_fine a b name g fs ms are keys i m within there).known)) ∙ sym e

  pub units_found : t ≡ true → Some i ≡ place_by (has_units a name units) fs
  units_found y = sym (sym (ap (λ f. place_by (has_units a name units) f) are) ∙ place_here (has_units a name units) ms i m within there none (told_by ∙ y))

  pub units_on : t ≡ false → place_by (has_units a name units) (fields_of (take (i + 1) ms)) ≡ None
  units_on n = rw add-one (place_more (has_units a name units) ms i m within there none (told_by ∙ n))

one_back : (b : Bool) (o : Option ℕ) (i : ℕ) → (if b then Some 0 else one_on o) ≡ Some i → ((b ≡ true) × (i ≡ 0)) ⊎ ((b ≡ false) × ((j : ℕ) × (i ≡ suc j) × (o ≡ Some j)))
one_back true o i e = inl (refl, cc)
one_back false None i e = cc
one_back false (Some j) i e = inr (refl, (j, cc, refl))

module _ {R : Type 0} (is : R → Bool) where
  pub place_within : (fs : Fields R) (i : ℕ) → place_by is fs ≡ Some i → i < width fs
  place_within no_fields i e = cc
  place_within (field k v rest) i e = elim (one_back (is k) (place_by is rest) i e) [ inl h ↦ omega (arith, h.1) | inr h ↦ omega (arith, h.1.1, place_within rest h.1.0 h.1.2) ]

  pub put_there : (key : R) (value : Content R) (fs : Fields R) (i : ℕ) → place_by is fs ≡ Some i → with_value i value fs ≡ put_by is key value fs
  put_there key value no_fields i e = cc
  put_there key value (field k v rest) i e = elim (one_back (is k) (place_by is rest) i e)
      [ inl h ↦ rw (h.0, h.1) refl | inr h ↦ rw (h.0, h.1.1) (ap (λ fs. field k v fs) (put_there key value rest h.1.0 h.1.2)) ]

  pub put_last : (key : R) (value : Content R) (fs : Fields R) → place_by is fs ≡ None → add key value fs ≡ put_by is key value fs
  put_last key value no_fields e = refl
  put_last key value (field k v rest) e = let h = none_head (is k) (place_by is rest) e in rw h.0 (ap (λ fs. field k v fs) (put_last key value rest h.1))

  -- the value of the member at the place, and none where there is no place
  pub value_there : (ms : List (Member R)) (i : ℕ) (m : Member R) → place_by is (fields_of ms) ≡ Some i → m ≡ get_or ms i m → value_by is (fields_of ms) ≡ Some (content_of m.value)
  value_there [] i m e h = cc
  value_there (n ∷ ms) i m e h = elim (one_back (is n.key) (place_by is (fields_of ms)) i e) [
    | inl p ↦ let same : m ≡ n = h ∙ ap (λ k. get_or (n ∷ ms) k m) p.1 in rw p.0 (ap (λ (q : Member R). Some (content_of q.value)) (sym same))
    | inr p ↦ rw p.0 (value_there ms p.1.0 m p.1.2 (h ∙ ap (λ k. get_or (n ∷ ms) k m) p.1.1))
  ]

  pub no_value : (fs : Fields R) → place_by is fs ≡ None → value_by is fs ≡ None
  no_value no_fields e = refl
  no_value (field k v rest) e = let h = none_head (is k) (place_by is rest) e in rw h.0 (no_value rest h.1)
