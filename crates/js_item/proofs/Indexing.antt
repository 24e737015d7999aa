-- An index leads to each member: what its answers say, and how it stays so.
use Rattle.std.proofs.Common.{arith, ◌≡◌, ℕ, zero, suc, ◌+◌, ◌<◌, true, false, Option, Some, None, List, [], ◌∷◌, length, get_or, take, refl, sym, ap, subst, ◌∙◌, nat_eq}
use Rattle.std.specs.Prelude.{bytes_eq, cond, Result, Ok, Err, OnOk, OnErr}
use Rattle.std.specs.Map.{lookup}
use Rattle.std.proofs.lemmas.Bool.{ne_eqb}
use Rattle.std.proofs.lemmas.List.{length-take-le}
use Rattle.std.proofs.lemmas.Slice.Eq.{bytes_eq-Decides}
use Rattle.js_store.specs.State.{State, Sound, Interned, text}
use Rattle.js_item.specs.Contents.{Content, Fields, no_fields, field, add}
use Rattle.js_item.specs.declared.item.Member.{Member}
use Rattle.js_item.specs.Views.{content_of, fields_of}
use Rattle.js_item.specs.Fine.{KnownStrings, strings_of, units_at, KeyFine, KeysFine, KeysDiffer}
use Rattle.js_item.specs.Puts.{width, with_value, place_by, names_key}
use Rattle.js_item.specs.Indexed.{Lacks, IsNoted, HasPlacesFrom, IsIndexed}
use Rattle.js_item.proofs.Members.{fields_take}
use Rattle.js_item.proofs.Finding.{none_head, if_false, false_unless, no_key_at, width_is}

same_number : (n : ℕ) → nat_eq n n ≡ true
same_number n = grind arith

module _ {R : Type 0} (name : R → ℕ) where
  -- no key of the members has this number
  abbrev pub Fresh : ℕ → Fields R → Type 0
  Fresh n no_fields = Unit {0}
  Fresh n (field key value rest) = (name key ≡ n → ⊥) × Fresh n rest

  module _ (es fs : List (ℕ × ℕ)) (n place : ℕ) (noted : IsNoted (Some es) (Some fs) n place) where
    leads_on : (i : ℕ) (gs : Fields R) → Fresh n gs → HasPlacesFrom es name i gs → HasPlacesFrom fs name i gs
    leads_on i no_fields f h = tt
    leads_on i (field key value rest) f h =
        let other : nat_eq n (name key) ≡ false = ne_eqb n (name key) (λ e. f.0 (sym e)) in
        (noted (name key) ∙ (ap (λ b. cond b (Some place) (lookup (nat_eq (name key)) es)) other ∙ h.0), leads_on (i + 1) rest f.1 h.1)

    has_place : lookup (nat_eq n) fs ≡ Some place
    has_place = noted n ∙ ap (λ b. cond b (Some place) (lookup (nat_eq n) es)) (same_number n)

  leads_next : (es : List (ℕ × ℕ)) (key : R) (value : Content R) (i : ℕ) (gs : Fields R) → HasPlacesFrom es name i gs →
      lookup (nat_eq (name key)) es ≡ Some (i + width gs) → HasPlacesFrom es name i (add key value gs)
  leads_next es key value i no_fields h e = let here : i + 0 ≡ i = omega arith in (e ∙ ap Some here, tt)
  leads_next es key value i (field k v rest) h e =
      let on : i + (width rest + 1) ≡ i + 1 + width rest = omega arith in
      (h.0, leads_next es key value (i + 1) rest h.1 (e ∙ ap Some on))

  -- an entry for a number that no key has
  pub indexed_on : (old new : Option (List (ℕ × ℕ))) (n place : ℕ) (gs : Fields R) → IsNoted old new n place → Fresh n gs → IsIndexed name old gs → IsIndexed name new gs
  indexed_on None new n place gs e f h = subst (λ (o : Option (List (ℕ × ℕ))). IsIndexed name o gs) (sym e) tt
  indexed_on (Some es) None n place gs e f h = absurd e
  indexed_on (Some es) (Some fs) n place gs e f h = leads_on es fs n place e 0 gs f h

  -- the same where a refusal changed nothing
  pub indexed_still : (old new : Option (List (ℕ × ℕ))) (n place : ℕ) (gs : Fields R) {A E : Type 0} (r : Result A E) → OnOk r (IsNoted old new n place) → OnErr r (new ≡ old) → Fresh n gs →
      IsIndexed name old gs → IsIndexed name new gs
  indexed_still old new n place gs (Ok x) p q f h = indexed_on old new n place gs p f h
  indexed_still old new n place gs (Err x) p q f h = subst (λ (o : Option (List (ℕ × ℕ))). IsIndexed name o gs) (sym q) h

  -- the entry of the next member
  pub indexed_next : (old new : Option (List (ℕ × ℕ))) (key : R) (value : Content R) (gs : Fields R) → IsNoted old new (name key) (width gs) →
      Fresh (name key) gs → IsIndexed name old gs → IsIndexed name new (add key value gs)
  indexed_next None new key value gs e f h = subst (λ (o : Option (List (ℕ × ℕ))). IsIndexed name o (add key value gs)) (sym e) tt
  indexed_next (Some es) None key value gs e f h = absurd e
  indexed_next (Some es) (Some fs) key value gs e f h =
      leads_next fs key value 0 gs (leads_on es fs (name key) (width gs) e 0 gs f h)
      (has_place es fs (name key) (width gs) e ∙ ap Some {x = width gs} {y = 0 + width gs} (omega arith))

  -- the same after a call that may be refused
  pub indexed_then : (old new : Option (List (ℕ × ℕ))) (key : R) (gs : Fields R) {A E : Type 0} (r : Result A E) → OnOk r (IsNoted old new (name key) (width gs)) →
      Fresh (name key) gs → IsIndexed name old gs → OnOk r ((value : Content R) → IsIndexed name new (add key value gs))
  indexed_then old new key gs (Ok x) p f h = λ value. indexed_next old new key value gs p f h
  indexed_then old new key gs (Err x) p f h = tt

  -- another value of a member
  leads_with : (es : List (ℕ × ℕ)) (place : ℕ) (value : Content R) (i : ℕ) (gs : Fields R) → HasPlacesFrom es name i gs → HasPlacesFrom es name i (with_value place value gs)
  leads_with es place value i no_fields h = tt
  leads_with es zero value i (field k v rest) h = h
  leads_with es (suc place) value i (field k v rest) h = (h.0, leads_with es place value (i + 1) rest h.1)

  pub indexed_with : (o : Option (List (ℕ × ℕ))) (place : ℕ) (value : Content R) (gs hs : Fields R) → hs ≡ with_value place value gs → IsIndexed name o gs → IsIndexed name o hs
  indexed_with None place value gs hs e h = tt
  indexed_with (Some es) place value gs hs e h = subst (λ (q : Fields R). HasPlacesFrom es name 0 q) (sym e) (leads_with es place value 0 gs h)

  -- a member that was added, or not
  pub indexed_either : (o : Option (List (ℕ × ℕ))) (gs hs : Fields R) (key : R) (value : Content R) {A E : Type 0} (r : Result A E) → IsIndexed name o gs →
      IsIndexed name o (add key value gs) → OnOk r (hs ≡ add key value gs) → OnErr r (hs ≡ gs) → IsIndexed name o hs
  indexed_either o gs hs key value (Ok x) h k p q = subst (λ (f : Fields R). IsIndexed name o f) (sym p) k
  indexed_either o gs hs key value (Err x) h k p q = subst (λ (f : Fields R). IsIndexed name o f) (sym q) h

  module _ (s : KnownStrings) where
    -- the number of a key that no member has
    pub fresh_absent : (key : R) (gs : Fields R) → place_by (λ r. bytes_eq (units_at s (name r)) (units_at s (name key))) gs ≡ None → Fresh (name key) gs
    fresh_absent key no_fields e = tt
    fresh_absent key (field k v rest) e =
        let is = λ (r : R). bytes_eq (units_at s (name r)) (units_at s (name key)) in
        let h = none_head (is k) (place_by is rest) e in (
          λ same. let t : false ≡ true = sym h.0 ∙ (bytes_eq-Decides (units_at s (name k)) (units_at s (name key))).1 (ap (units_at s) same) in cc,
          fresh_absent key rest h.1,
        )

    -- that of a member among those before it
    fresh_before : (ms : List (Member R)) (i : ℕ) (m : Member R) → i < length ms → m ≡ get_or ms i m → KeysDiffer s name (fields_of ms) → Fresh (name m.key) (fields_of (take i ms))
    fresh_before [] i m h e d = absurd (omega arith)
    fresh_before (n ∷ ms) zero m h e d = tt
    fresh_before (n ∷ ms) (suc i) m h e d = (
      λ same. no_key_at s name (units_at s (name n.key)) ms i m (omega arith) e d.0 (ap (units_at s) (sym same)),
      fresh_before ms i m (omega arith) e d.1,
    )

    -- a turn of a loop that enters the members
    pub indexed_turn : (ms : List (Member R)) (i : ℕ) (m : Member R) (old new : Option (List (ℕ × ℕ))) (n : ℕ) → i < length ms → m ≡ get_or ms i m → KeysDiffer s name (fields_of ms) →
        n ≡ name m.key → IsNoted old new n i → IsIndexed name old (fields_of (take i ms)) → IsIndexed name new (fields_of (take (i + 1) ms))
    indexed_turn ms i m old new n l e d number noted h =
        let gs = fields_of (take i ms) in
        let long : width gs ≡ i = omega (arith, width_is (take i ms), length-take-le i ms (omega (arith, l))) in
        let as_key : IsNoted old new (name m.key) (width gs) = subst (λ (p : ℕ × ℕ). IsNoted old new p.0 p.1) {x = (n, i)} {y = (name m.key, width gs)} (cc (number, long)) noted in
        subst (λ (q : Fields R). IsIndexed name new q) (sym (fields_take ms i m l e))
        (indexed_next old new m.key (content_of m.value) gs as_key (fresh_before ms i m l e d) h)

-- a key whose number the index lacks
module _ {F R : Type 0} (s : State F) (sound : Sound s) (name : R → ℕ) (key : R) (k : KeyFine (strings_of s) (name key)) where
  one_number : (r : R) → KeyFine (strings_of s) (name r) → names_key s name key r ≡ true → name r ≡ name key
  one_number r l e =
      let units : text s (name r) ≡ text s (name key) = (bytes_eq-Decides (text s (name r)) (text s (name key))).0 e in
      let interned : Interned s (text s (name key)) (name r) = subst (λ (u : List ℕ). Interned s u (name r)) units l.interned in
      sound.one_number (text s (name key)) (name r) (name key) interned k.interned

  leads_absent : (es : List (ℕ × ℕ)) (i : ℕ) (gs : Fields R) → lookup (nat_eq (name key)) es ≡ None → HasPlacesFrom es name i gs →
      KeysFine (strings_of s) name gs → place_by (names_key s name key) gs ≡ None
  leads_absent es i no_fields e h l = refl
  leads_absent es i (field r v rest) e h l =
      let other : names_key s name key r ≡ false = false_unless (names_key s name key r)
      (λ t. let there : Some i ≡ None = sym h.0 ∙ (ap (λ (n : ℕ). lookup (nat_eq n) es) (one_number r l.0 t) ∙ e) in absurd (cc)) in
      if_false (names_key s name key r) (place_by (names_key s name key) rest) None other (leads_absent es (i + 1) rest e h.1 l.1)

  pub absent : (o : Option (List (ℕ × ℕ))) (gs : Fields R) → Lacks o (name key) → IsIndexed name o gs → KeysFine (strings_of s) name gs → place_by (names_key s name key) gs ≡ None
  absent None gs e h l = absurd e
  absent (Some es) gs e h l = leads_absent es 0 gs e h l
