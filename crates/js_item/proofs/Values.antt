-- What items stand for stays while the store grows, and objects are put together as their units are.
use Rattle.std.proofs.Common.{◌≡◌, ℕ, Bool, true, false, Some, refl, ap, ◌∙◌}
use Rattle.std.specs.Prelude.{if◌then◌else◌, Option}
use Rattle.std.specs.Option.{option_map}
use Rattle.js_store.specs.State.{State, Grows}
use Rattle.js_store.proofs.Laws.{text_still}
use Rattle.js_texts.proofs.Lists.{texts_still}
use Rattle.js_item.specs.Contents.{Content, undefined, null, bool, number, text, symbol, list, object, Fields, no_fields, field}
use Rattle.js_item.specs.declared.item.Item.{Item}
use Rattle.js_item.specs.Views.{content_of}
use Rattle.js_item.specs.Fine.{strings_of, FineOf, FineFields, IsFine}
use Rattle.js_item.specs.Puts.{one_on, place_by, value_by, put_by}
use Rattle.js_item.specs.Seen.{says, content_mapped, fields_mapped, seen}

module _ {F R : Type 0} (a b : State F) (name : R → ℕ) (g : Grows a b) where
  mutual
    pub mapped_still : (c : Content R) → FineOf (strings_of a) name c → content_mapped (says b name) c ≡ content_mapped (says a name) c
    mapped_still undefined h = refl
    mapped_still null h = refl
    mapped_still (bool t) h = refl
    mapped_still (number n) h = refl
    mapped_still (text r) h = ap text (text_still g (name r) h)
    mapped_still (symbol r) h = ap symbol (text_still g (name r) h.0)
    mapped_still (list rs) h = ap list (texts_still name a b rs g h)
    mapped_still (object fs) h = ap object (fields_mapped_still fs h.0)

    pub fields_mapped_still : (fs : Fields R) → FineFields (strings_of a) name fs → fields_mapped (says b name) fs ≡ fields_mapped (says a name) fs
    fields_mapped_still no_fields h = refl
    fields_mapped_still (field key value rest) h = rw (text_still g (name key) h.0.known, mapped_still value h.1, fields_mapped_still rest h.2) refl

  pub seen_still : (v : Item R) → IsFine a name v → seen b name v ≡ seen a name v
  seen_still v h = mapped_still (content_of v) h

-- a copy is seen as the same, and may be used as that may: both by the equality of contents alone
pub seen_copy : {F R : Type 0} (s : State F) (name : R → ℕ) (v w : Item R) → content_of v ≡ content_of w → seen s name v ≡ seen s name w
seen_copy s name v w e = ap (content_mapped (says s name)) e

-- by units: putting in and finding are those of the lists of units
module _ {R Q : Type 0} (f : R → Q) (is : Q → Bool) where
  mapped_if : (b : Bool) (fs gs : Fields R) → fields_mapped f (if b then fs else gs) ≡ (if b then fields_mapped f fs else fields_mapped f gs)
  mapped_if true fs gs = refl
  mapped_if false fs gs = refl

  pub mapped_put : (key : R) (value : Content R) (fs : Fields R) → fields_mapped f (put_by (λ r. is (f r)) key value fs) ≡ put_by is (f key) (content_mapped f value) (fields_mapped f fs)
  mapped_put key value no_fields = refl
  mapped_put key value (field k v rest) = mapped_if (is (f k)) (field k value rest) (field k v (put_by (λ r. is (f r)) key value rest))
      ∙ ap (λ fs. if is (f k) then field (f k) (content_mapped f value) (fields_mapped f rest) else field (f k) (content_mapped f v) fs) (mapped_put key value rest)

  pub mapped_place : (fs : Fields R) → place_by (λ r. is (f r)) fs ≡ place_by is (fields_mapped f fs)
  mapped_place no_fields = refl
  mapped_place (field k v rest) = ap (λ o. if is (f k) then Some 0 else one_on o) (mapped_place rest)

  value_if : (b : Bool) (v : Content R) (o : Option (Content R)) → option_map (content_mapped f) (if b then Some v else o) ≡ (if b then Some (content_mapped f v) else option_map (content_mapped f) o)
  value_if true v o = refl
  value_if false v o = refl

  pub mapped_value : (fs : Fields R) → option_map (content_mapped f) (value_by (λ r. is (f r)) fs) ≡ value_by is (fields_mapped f fs)
  mapped_value no_fields = refl
  mapped_value (field k v rest) = value_if (is (f k)) v (value_by (λ r. is (f r)) rest) ∙ ap (λ o. if is (f k) then Some (content_mapped f v) else o) (mapped_value rest)
