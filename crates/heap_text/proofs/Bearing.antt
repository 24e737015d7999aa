-- A Flat over the words that were written has the units.
use Rattle.std.proofs.Common.{◌≡◌, ℕ, ◌+◌, ◌-◌, ◌*◌, ◌/◌, ◌%◌, ◌<◌, inl, Bool, true, false, List, length, get_or, refl, ap, ◌∙◌, subst, arith, Some, Option}
use Rattle.std.specs.Prelude.{unwrap_or}
use Rattle.std.proofs.lemmas.List.{get_or_past}
use Rattle.std.proofs.lemmas.Grind.{same_number_lists}
use Rattle.std.specs.FinMap.{get}
use Rattle.js_units.specs.Lanes.{lane_count, lane_of, words_over}
use Rattle.js_header.specs.declared.form.Form.TheVariants.{Flat}
use Rattle.heap_rule.specs.declared.view.View.{View}
use Rattle.heap_rule.specs.declared.size.Counter.TheVariants.{Ids}
use Rattle.heap_rule.specs.Contents.{lane_in, span}
use Rattle.heap_rule.specs.Maps.{Has, HasKey}
use Rattle.heap_rule.specs.Views.{shown_word}
use Rattle.heap_rule.specs.Births.{FormFits, born, stored_length, units_for}
use Rattle.heap_rule.specs.Claims.{won_claim}
use Rattle.heap_rule.proofs.Birth.{length_span}
use Rattle.heap_rule.proofs.MapLemmas.{insert_same, key_of}
use Rattle.heap_rule.proofs.Possible.{span_lane}
use Rattle.heap_table.specs.Known.{KeepsKnown}
use Rattle.heap_read.specs.Reads.{Continues}
use Rattle.heap_read.specs.Written.{IsWritten}

-- the word and the lane of a unit
word_of_lane : (wide : Bool) (n o : ℕ) → o < words_over wide n * lane_count wide → o / lane_count wide < words_over wide n
word_of_lane true n o l = omega arith
word_of_lane false n o l = omega arith

lane_of_word : (wide : Bool) (o : ℕ) → (o % lane_count wide < lane_count wide) × (o / lane_count wide * lane_count wide + o % lane_count wide ≡ o)
lane_of_word true o = (omega arith, omega arith)
lane_of_word false o = (omega arith, omega arith)

lane_there : (wide : Bool) (n o : ℕ) → o < n → o < words_over wide n * lane_count wide
lane_there true n o l = omega arith
lane_there false n o l = omega arith

module _ (v : View) (wide : Bool) (start : ℕ) (us : List ℕ) (h : IsWritten v wide start us) where
  pub written_lane : (o : ℕ) → o < words_over wide (length us) * lane_count wide → lane_in (shown_word v) wide start o ≡ get_or us o 0
  unfolding lane_in
  written_lane o l = let q : ℕ = o / lane_count wide in let t = h.words.each q (word_of_lane wide (length us) o l) in let p = lane_of_word wide o in
      let here : shown_word v (start + q) ≡ t.0 = ap (λ (x : Option ℕ). unwrap_or x (unwrap_or (get v.frozen (start + q)) 0)) t.1 in
      ap (λ (x : ℕ). lane_of wide x (o % lane_count wide)) here ∙ (t.2 (o % lane_count wide) p.0 ∙ ap (λ (n : ℕ). get_or us n 0) p.1)

  pub written_span : span (shown_word v) wide start 0 (length us) ≡ us
  written_span = same_number_lists (span (shown_word v) wide start 0 (length us)) us (length_span (shown_word v) wide start 0 (length us))
      (λ k l. let n = length_span (shown_word v) wide start 0 (length us) in let l' : k < length us = omega arith in let plain : 0 + k ≡ k = omega arith in
      span_lane (shown_word v) wide start 0 (length us) k l' ∙ (ap (λ (o : ℕ). lane_in (shown_word v) wide start o) plain ∙ written_lane k (lane_there wide (length us) k l')))

  pub written_fits : (i : ℕ) → FormFits v i (length us) (Flat wide start false)
  written_fits i = (
    h.small,
    (λ c lo hi. let e : start + (c - start) ≡ c = omega arith in
        let t = h.words.each (c - start) (omega arith) in inl (subst (HasKey v.own_words) e (key_of v.own_words (start + (c - start)) t.0 t.1))),
    (λ o lo hi. written_lane o hi ∙ get_or_past us o 0 lo),
    h.empty,
  )

-- what is written stays so while an id is claimed, and while the length of one is stored
pub written_claimed : (v : View) (id : ℕ) (wide : Bool) (start : ℕ) (us : List ℕ) → IsWritten v wide start us → IsWritten (won_claim v Ids id 1) wide start us
written_claimed v id wide start us h = record { small = h.small; words = record { each = h.words.each }; empty = h.empty }

pub written_still : (v : View) (id n : ℕ) (wide : Bool) (start : ℕ) (us : List ℕ) → IsWritten v wide start us → IsWritten (stored_length v id n) wide start us
written_still v id n wide start us h = record { small = h.small; words = record { each = h.words.each }; empty = h.empty }

pub born_units : (v : View) (i n : ℕ) (wide : Bool) (start : ℕ) (us : List ℕ) → IsWritten v wide start us → Has v.own_ids i n → n ≡ length us → Has (born v i (Flat wide start false)).units i us
born_units v i n wide start us h own e = let f = Flat wide start false in
    insert_same v.units i (units_for v (unwrap_or (get v.own_ids i) 0) f)
    ∙ (ap (λ (o : Option ℕ). Some (span (shown_word v) wide start 0 (unwrap_or o 0))) own ∙ (ap (λ (m : ℕ). Some (span (shown_word v) wide start 0 m)) e ∙ ap Some (written_span v wide start us h)))

pub born_form : (v : View) (i : ℕ) (wide : Bool) (start : ℕ) → Has (born v i (Flat wide start false)).forms i (Flat wide start false)
born_form v i wide start = insert_same v.forms i (Flat wide start false)

pub continues_born : (v : View) (i : ℕ) (wide : Bool) (start : ℕ) → KeepsKnown v (born v i (Flat wide start false)) → Continues v (born v i (Flat wide start false))
continues_born v i wide start k = record {
  known = k;
  sizes = refl;
  agents = refl;
  live = refl;
  share = refl;
  ids_used = omega arith;
  words_used = omega arith;
  ids_low = omega arith;
  words_low = omega arith;
  slots = refl;
  seen = refl;
  mine = refl;
  slot_loads = refl;
}
