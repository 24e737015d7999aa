-- A thinning that finds the form it expects keeps the rule: a Thin to a fixed Flat with the same units takes its place.
use Rattle.std.proofs.Common.{◌≡◌, ◌≢◌, ℕ, ◌+◌, ◌^◌, ◌<◌, ◌≤◌, inl, inr, ⊎_elim, Bool, true, false, List, length, set, sym, refl, ap, ◌∙◌, subst, arith, Option}
use Rattle.std.proofs.Common.{Some, get_or-set_other, get_or-set_same, length-set}
use mathlib.Core.Logic.{dite}
use native.Mathlib.Decide.{ℕ_discrete}
use Rattle.std.specs.FinMap.{FinMap, insert}
use Rattle.std.specs.Ordering.{nat_cmp}
use Rattle.js_header.specs.Form.{form_of, word_of}
use Rattle.js_header.specs.declared.form.Form.{Form}
use Rattle.js_header.specs.declared.form.Form.TheVariants.{Unborn, Flat, Cons, Sliced, Thin}
use Rattle.js_header.proofs.RoundTrip.{form_of-word_of, word_of-form_of}
use Rattle.heap_rule.specs.declared.view.View.{View}
use Rattle.heap_rule.specs.declared.size.HeapSize.{HeapSize}
use Rattle.heap_rule.specs.Layout.{MAX, form_at, length_at, content_at, next_id, next_word, slot, form, length_word, content, IsBorn}
use Rattle.heap_rule.specs.Contents.{whole, flat, flat_by, solid_by, shape, shape_by, units_by, units_of, units_in, span}
use Rattle.heap_rule.specs.Maps.{Has}
use Rattle.heap_rule.specs.Forms.{IsLater}
use Rattle.heap_rule.specs.HeaderMoves.{CanThin}
use Rattle.heap_rule.specs.Sound.{At, IsStanding, KnowsForm, OwnsIds, OwnsWords, IsUsed, IsSound}
use Rattle.heap_rule.proofs.MapLemmas.{has_insert}
use Rattle.heap_rule.proofs.UnitLemmas.{units_step, flat_same}
use Rattle.heap_rule.proofs.Agreement.{Agrees, Turned, low}
use Rattle.heap_rule.proofs.Carried.{false_true}
use Rattle.heap_rule.proofs.OneView.{one_view, no_slot}
use Rattle.heap_rule.proofs.Steps.{added_keep, free_by, knew, recalled}

-- the word of a form that may be thinned is no word of a later form
thin_stays : (old now : Form) → CanThin old → IsLater old now → word_of now ≡ word_of old → ⊥
thin_stays (Flat w a false) (Thin t) h g e = omega arith
thin_stays (Sliced w a o) (Thin t) h g e = omega arith
thin_stays (Flat w a false) Unborn h g e = false_true g
thin_stays (Flat w a false) (Flat x b true) h g e = false_true g
thin_stays (Flat w a false) (Flat x b false) h g e = false_true g
thin_stays (Flat w a false) (Cons x b c) h g e = false_true g
thin_stays (Flat w a false) (Sliced x b c) h g e = false_true g
thin_stays (Sliced w a o) Unborn h g e = false_true g
thin_stays (Sliced w a o) (Flat x b true) h g e = false_true g
thin_stays (Sliced w a o) (Flat x b false) h g e = false_true g
thin_stays (Sliced w a o) (Cons x b c) h g e = false_true g
thin_stays (Sliced w a o) (Sliced x b c) h g e = false_true g
thin_stays Unborn now h g e = h
thin_stays (Flat w a true) now h g e = h
thin_stays (Cons w a b) now h g e = h
thin_stays (Thin t) now h g e = h

thin_later : (old : Form) (t : ℕ) → CanThin old → IsLater old (Thin t)
thin_later (Flat w a false) t h = refl
thin_later (Sliced w a o) t h = refl
thin_later Unborn t h = absurd h
thin_later (Flat w a true) t h = absurd h
thin_later (Cons w a b) t h = absurd h
thin_later (Thin q) t h = absurd h

module _ (z : HeapSize) (agents : ℕ) (W : List ℕ) (vs : List View) (s : IsSound z agents W vs) (j : ℕ) (v : View) (at : At vs j v) (live : v.live ≡ true)
    (i t : ℕ) (old : Form) (seen : Has v.forms i old) (can : CanThin old) (hit : form z W
    i ≡ word_of old) (k : ℕ) (in_slot : Has v.slots k t) (us : List ℕ) (units : Has v.units i us) (target_units : Has v.units t us) where
  abbrev f : Form
  f = Thin t

  abbrev w : View
  w = record v { forms = insert v.forms i f }

  abbrev W' : List ℕ
  W' = set W (form_at z i) (word_of f)

  abbrev vs' : List View
  vs' = set vs j w

  known : KnowsForm z W vs i old
  known = (s.knows j v at live).of_forms i old seen

  inside : i < z.ids
  inside = known.born.0

  still : old ≡ known.now
  still = ⊎_elim (λ e. e) (λ l. absurd (thin_stays old known.now can l (word_of-form_of (form z W i) known.now known.decodes ∙ hit))) known.later

  was : form_of (form z W i) ≡ Some old
  was = known.decodes ∙ ap Some (sym still)

  slot_is : (k < z.slots) × (slot z W k ≡ t + 1)
  slot_is = (s.knows j v at live).of_slots k t in_slot

  used : IsUsed z W vs k t
  used = s.slots k t slot_is.0 slot_is.1

  abbrev wide : Bool
  wide = used.fixed.0

  abbrev start : ℕ
  start = used.fixed.1

  no_fixed : (a : Bool) (b : ℕ) → form_of (form z W i) ≡ Some (Flat a b true) → ⊥
  no_fixed a b e = let d : Some old ≡ Some (Flat a b true) = sym was ∙ e in let same : old ≡ Flat a b true = cc in subst CanThin same can

  another : t ≢ i
  another e = no_fixed wide start (ap (λ (q : ℕ). form_of (form z W q)) (sym e) ∙ used.fixed.2)

  forms : (q : ℕ) → q ≢ i → form z W' q ≡ form z W q
  forms q ne = get_or-set_other W (form_at z i) (form_at z q) (word_of f) 0 (λ e. ne (omega arith))

  lengths : (q : ℕ) → length_word z W' q ≡ length_word z W q
  lengths q = get_or-set_other W (form_at z i) (length_at z q) (word_of f) 0 (λ e. omega arith)

  contents : (c : ℕ) → content z W' c ≡ content z W c
  contents c = let h = inside in get_or-set_other W (form_at z i) (content_at z c) (word_of f) 0 (λ e. omega arith)

  slots : (q : ℕ) → q < z.slots → slot z W' q ≡ slot z W q
  slots q h = get_or-set_other W (form_at z i) (2 + q) (word_of f) 0 (λ e. omega arith)

  ids_same : next_id W' ≡ next_id W
  ids_same = get_or-set_other W (form_at z i) 0 (word_of f) 0 (λ e. omega arith)

  words_same : next_word W' ≡ next_word W
  words_same = get_or-set_other W (form_at z i) 1 (word_of f) 0 (λ e. omega arith)

  in_range : t < 2 ^ 29
  in_range = let a = used.born.0 in let b = s.lawful.1 in omega arith

  decodes : form_of (form z W' i) ≡ Some f
  decodes = let long = s.counted.long in let h = inside in ap form_of (get_or-set_same W (form_at z i) (word_of f) 0 (omega arith)) ∙ form_of-word_of f in_range

  target_now : form_of (form z W' t) ≡ Some (Flat wide start true)
  target_now = ap form_of (forms t another) ∙ used.fixed.2

  target_born : IsBorn z W' t
  target_born = (used.born.0, λ e. used.born.1 (sym (forms t another) ∙ e))

  units_were : units_of z W i ≡ us
  units_were = ((s.knows j v at live).of_units i us units).1

  target_span : units_of z W t ≡ span (content z W) wide start 0 (length_word z W t)
  unfolding shape
  target_span = units_step (shape z W) (low z W) t ∙ ap (λ (o : Option Form). units_by (units_in (shape z W)) (shape_by z W t o)) used.fixed.2

  span_now : span (content z W') wide start 0 (length_word z W' t) ≡ us
  span_now = ap (λ (m : ℕ). span (content z W') wide start 0 m) (lengths t)
      ∙ (flat_same (content z W') (content z W) wide start (length_word z W t) (λ c _ _. contents c) ∙ (sym target_span ∙ ((s.knows j v at live).of_units t us target_units).1))

  flat_now : flat z W' t ≡ us
  flat_now = ap (flat_by z W' t) target_now ∙ span_now

  units_now : units_of z W' i ≡ us
  unfolding shape
  units_now = units_step (shape z W') (low z W') i ∙ (ap (λ (o : Option Form). units_by (units_in (shape z W')) (shape_by z W' i o)) decodes ∙ flat_now)

  target_units_now : units_of z W' t ≡ us
  unfolding shape
  target_units_now = units_step (shape z W') (low z W') t ∙ (ap (λ (o : Option Form). units_by (units_in (shape z W')) (shape_by z W' t o)) target_now ∙ span_now)

  whole_now : shape z W' i ≡ whole (units_of z W i)
  unfolding shape
  whole_now = ap (shape_by z W' i) decodes ∙ ap whole (flat_now ∙ sym units_were)

  standing : IsStanding z W' vs' i
  standing = record {
    now = f;
    decodes = decodes;
    below = (let a = ids_same in let b = (s.standing i known.born).below in omega arith);
    length_is = lengths i ∙ ((s.standing i known.born).length_is ∙ ap length (units_were ∙ sym units_now));
    short = subst (λ (m : ℕ). m ≤ MAX) (sym (lengths i)) (s.standing i known.born).short;
    stands = (target_born, (wide, start, target_now), target_units_now ∙ sym units_now, (k, slot_is.0, slots k slot_is.0 ∙ slot_is.1));
  }

  turned : Turned z W W' vs' i
  turned = record {
    born = λ e. (let d : Some Unborn ≡ Some f = ap form_of (sym e) ∙ decodes in cc);
    whole_now = whole_now;
    solid_now = ap (solid_by z W' i) decodes ∙ (flat_now ∙ sym units_were);
    moving = no_fixed;
    next = f;
    decodes = decodes;
    solid_form = tt;
    later = λ g e. (let d : Some old ≡ Some g = sym was ∙ e in let same : old ≡ g = cc in subst (λ (h : Form). IsLater h f) same (thin_later old t can));
    stands = standing;
  }

  pub agrees_thinning : Agrees z W vs W' vs'
  agrees_thinning = let a = ids_same in let b = words_same in record {
    ids = omega arith;
    words = omega arith;
    forms = λ q b. dite (ℕ_discrete q i) (λ e. inr (subst (Turned z W W' vs') (sym e) turned)) (λ ne. inl (forms q ne));
    lengths = λ q b. lengths q;
    contents = λ c h. contents c;
    slots = λ q h. inl (slots q h);
    free = free_by z agents W vs s j v at live w (λ c _ h. h);
  }

  unborn_stay : (q : ℕ) → form z W q ≡ 0 → q ≢ i
  unborn_stay q h e = known.born.1 (subst (λ (y : ℕ). form z W y ≡ 0) e h)

  moved_ids : (m : FinMap nat_cmp ℕ) → OwnsIds z W m → OwnsIds z W' m
  moved_ids m o = record { each = λ q y h. let r = o.each q y h in let a = ids_same in let b = r.0 in (omega arith, forms q (unborn_stay q r.1) ∙ r.1, lengths q ∙ r.2, r.3) }

  moved_words : (m : FinMap nat_cmp ℕ) → OwnsWords z W m → OwnsWords z W' m
  moved_words m o = record { each = λ c y h. let r = o.each c y h in let a = words_same in let b = r.0 in (omega arith, contents c ∙ r.1) }

  pub keeps_thinning : IsSound z agents W' vs'
  keeps_thinning = let kn = knew z agents W vs s j v at live W' w agrees_thinning in let counted = s.counted in let a = ids_same in
      let b = words_same in one_view z agents W vs j v W' w s at live record {
        live = live;
        agrees = agrees_thinning;
        counted = record {
          long = length-set W (form_at z i) (word_of f) ∙ counted.long;
          ids_end = (let h = counted.ids_end in omega arith);
          words_end = (let h = counted.words_end in omega arith);
          no_form = λ q lo hi. forms q (λ e. let m = (s.standing i known.born).below in omega arith) ∙ counted.no_form q (omega arith) hi;
          no_length = λ q lo hi. lengths q ∙ counted.no_length q (omega arith) hi;
          no_content = λ c lo hi. contents c ∙ counted.no_content c (omega arith) hi;
        };
        newborn = λ q h. dite (ℕ_discrete q i) (λ e. inr (subst (λ (y : ℕ). IsStanding z W' vs' y) (sym e) standing)) (λ ne. inl (h.0, λ e. h.1 (forms q ne ∙ e)));
        own_ids = moved_ids v.own_ids (s.own_ids j v at live);
        own_words = moved_words v.own_words (s.own_words j v at live);
        others_ids = λ q u ne e l. (moved_ids u.own_ids (s.own_ids q u e l), s.ids_apart j v at live q u e l (λ x'. ne (sym x')));
        others_words = λ q u ne e l. (moved_words u.own_words (s.own_words q u e l), s.words_apart j v at live q u e l (λ x'. ne (sym x')));
        knows = record {
          of_met = kn.of_met;
          of_units = kn.of_units;
          of_forms = λ q g h. ⊎_elim (λ (r : (q ≡ i) × (f ≡ g)). subst (λ (y : ℕ × Form). KnowsForm z W' vs' y.0 y.1)
              (λ d. (sym r.0 d, r.1 d)) record {
                born = (inside, turned.born);
                now = f;
                decodes = decodes;
                later = inl refl;
                shows = (target_born, target_units_now ∙ sym units_now, (wide, start, target_now));
              })
              (λ (r : (q ≢ i) × Has v.forms q g). kn.of_forms q g r.1) (has_insert v.forms i q f g h);
          of_lengths = kn.of_lengths;
          of_frozen = kn.of_frozen;
          of_slots = kn.of_slots;
        };
        recalls = recalled z agents W vs s j v at live W' w agrees_thinning;
        mine = λ u q h. h;
        added = added_keep z agents W vs s j v at live w live refl refl W' a b;
        low = (let q = s.lows j v at live in let q0 = q.0 in let q1 = q.1 in (omega arith, omega arith));
        member = s.members j v at live;
        new_slots = no_slot z W vs W' vs' slots;
      }
