-- The strings of an object's values are settled, member by member.
use Rattle.std.proofs.Common.{arith, ◌≡◌, ℕ, ◌+◌, ◌<◌, ◌≤◌, false, List, [], ◌∷◌, map, length, get_or, take, sym, ap, subst, ◌∙◌, Result, Ok, Err}
use Rattle.std.proofs.Math.Seq.{take-length}
use Rattle.std.specs.Prelude.{OnOk}
use Rattle.std.specs.Borrow.{Bor}
use Rattle.js_store.specs.State.{State, Grows}
use Rattle.js_texts.specs.Texts.{Every}
use Rattle.js_texts.proofs.Lists.{every_map, every_more}
use Rattle.js_item.specs.Contents.{Content, undefined, null, bool, number, text, symbol, list, object, Fields, no_fields, field}
use Rattle.js_item.specs.declared.item.Member.{Member}
use Rattle.js_item.specs.Views.{content_of}
use Rattle.js_item.specs.Fine.{strings_of, FineOf, FineFields}
use Rattle.js_item.proofs.Still.{fine_of_still, fine_differ}
use Rattle.js_object.specs.Keys.{index_in, ordered, key_values, lent_entry}
use Rattle.js_object.specs.Json.{is_shown}
use Rattle.js_object.specs.Settled.{SettledIn, SettledFields}
use Rattle.js_object.proofs.Ordered.{every_ordered}
use Rattle.js_object.proofs.Texts.{lent_at}
use Rattle.js_object.proofs.Orders.{every_in_order, members_in_order}

module _ {F R : Type 0} (a b : State F) (name : R → ℕ) (g : Grows a b) where
  mutual
    pub settled_in_still : (c : Content R) → SettledIn a name c → SettledIn b name c
    settled_in_still undefined h = tt
    settled_in_still null h = tt
    settled_in_still (bool t) h = tt
    settled_in_still (number n) h = tt
    settled_in_still (text r) h = g.settled (name r) h
    settled_in_still (symbol r) h = tt
    settled_in_still (list rs) h = every_map (λ r k. g.settled (name r) k) rs h
    settled_in_still (object fs) h = settled_fields_still fs h

    pub settled_fields_still : (fs : Fields R) → SettledFields a name fs → SettledFields b name fs
    settled_fields_still no_fields h = tt
    settled_fields_still (field key value rest) h = (settled_in_still value h.0, settled_fields_still rest h.1)

-- what isn't shown holds no string that is read
pub unshown_settled : {F R : Type 0} (s : State F) (name : R → ℕ) (c : Content R) → is_shown c ≡ false → SettledIn s name c
unshown_settled s name undefined e = tt
unshown_settled s name null e = tt
unshown_settled s name (bool t) e = tt
unshown_settled s name (number n) e = tt
unshown_settled s name (text r) e = cc
unshown_settled s name (symbol r) e = tt
unshown_settled s name (list rs) e = cc
unshown_settled s name (object fs) e = cc

pub on_ok_always : {A E : Type 0} (r : Result A E) (P : Type 0) → P → OnOk r P
on_ok_always (Ok x) P p = p
on_ok_always (Err e) P p = tt

abbrev pub SettledLent : {F R : Type 0} → (R → ℕ) → State F → List (Bor (Member R)) → Type 0
SettledLent name s ns = Every (λ m. SettledIn s name (content_of m.now.value)) ns

-- the members of an object that were told so far, at the state a when it began
module _ {F R : Type 0} (a : State F) (name : R → ℕ) (fs : Fields R) (ms : List (Bor (Member R))) (order : map lent_entry ms ≡ ordered (index_in a name) (key_values fs)) where
  lent_still : (b d : State F) (ns : List (Bor (Member R))) → Grows b d → SettledLent name b ns → SettledLent name d ns
  lent_still b d ns g h = every_map (λ m k. settled_in_still b d name g (content_of m.now.value) k) ns h

  entries_values : (gs : Fields R) → FineFields (strings_of a) name gs → Every (λ e. FineOf (strings_of a) name e.1) (key_values gs)
  entries_values no_fields h = tt
  entries_values (field key value rest) h = (h.1, entries_values rest h.2)

  module _ (i : ℕ) (m : Bor (Member R)) (within : i < length ms) (there : m ≡ get_or ms i m) where
    value_fine : (d : State F) → Grows a d → FineFields (strings_of a) name fs → FineOf (strings_of d) name (content_of m.now.value)
    value_fine d g h =
        let every : Every (λ e. FineOf (strings_of a) name e.1) (map lent_entry ms) = subst (Every (λ e. FineOf (strings_of a) name e.1))
        (sym order) (every_ordered (λ e. FineOf (strings_of a) name e.1) (index_in a name) (key_values fs) (entries_values fs h)) in
        fine_of_still a d g name (content_of m.now.value) (lent_at (strings_of a) name (λ e. FineOf (strings_of a) name e.1) ms i m within there every)

    -- one more that is told, and one that isn't
    pub lent_told : (b d e : State F) → Grows a d → Grows b e → (FineFields (strings_of a) name fs → SettledLent name b (take i ms)) →
        (FineOf (strings_of d) name (content_of m.now.value) → SettledIn e name (content_of m.now.value)) → FineFields (strings_of a) name fs
        → SettledLent name e (take (i + 1) ms)
    lent_told b d e g k before here h = every_more (λ q. SettledIn e name (content_of q.now.value)) ms i m within there (lent_still b e (take i ms) k (before h)) (here (value_fine d g h))

    pub lent_passed : (b : State F) → is_shown (content_of m.now.value) ≡ false →
        (FineFields (strings_of a) name fs → SettledLent name b (take i ms)) → FineFields (strings_of a) name fs → SettledLent name b (take (i + 1) ms)
    lent_passed b o before h = every_more (λ q. SettledIn b name (content_of q.now.value)) ms i m within there (before h) (unshown_settled b name (content_of m.now.value) o)

  lent_entries : (b : State F) (ns : List (Bor (Member R))) → SettledLent name b ns → Every (λ e. SettledIn b name e.1) (map lent_entry ns)
  lent_entries b [] h = tt
  lent_entries b (n ∷ ns) h = (h.0, lent_entries b ns h.1)

  settled_entries : (b : State F) (gs : Fields R) → Every (λ e. SettledIn b name e.1) (key_values gs) → SettledFields b name gs
  settled_entries b no_fields h = tt
  settled_entries b (field key value rest) h = (h.0, settled_entries b rest h.1)

  -- all of them
  pub lent_end : (b : State F) (i : ℕ) → length ms ≤ i → i ≤ length ms →
      (FineFields (strings_of a) name fs → SettledLent name b (take i ms)) → FineFields (strings_of a) name fs → SettledFields b name fs
  lent_end b i l k all h =
      let count : i ≡ length ms = omega (arith, l, k) in
      let whole : take i ms ≡ ms = ap (λ n. take n ms) count ∙ take-length ms in
      let each : Every (λ e. SettledIn b name e.1) (map lent_entry ms) = lent_entries b ms (subst (SettledLent name b) whole (all h)) in
      settled_entries b fs (every_in_order (λ e. SettledIn b name e.1) (index_in a name) (key_values fs) (map lent_entry ms)
      (members_in_order a name fs (map lent_entry ms) order (fine_differ (strings_of a) name fs h)) each)
