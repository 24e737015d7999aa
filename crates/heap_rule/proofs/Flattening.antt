-- A flattening that finds the Cons keeps the rule: a Flat of own words takes its place.
use Rattle.std.proofs.Common.{◌≡◌, ◌≢◌, ℕ, ◌+◌, ◌*◌, ◌/◌, ◌^◌, ◌<◌, ◌≤◌, inl, inr, ⊎_elim, Bool, true, false, List, length, set, sym, refl, ap, ◌∙◌, subst}
use Rattle.std.proofs.Common.{arith, Option, Some, get_or-set_other, get_or-set_same, length-set}
use mathlib.Core.Logic.{dite}
use native.Mathlib.Decide.{ℕ_discrete}
use Rattle.std.specs.FinMap.{FinMap, get, insert}
use Rattle.std.specs.Ordering.{nat_cmp}
use Rattle.js_units.specs.Lanes.{lane_count, words_over}
use Rattle.js_header.specs.Form.{form_of, word_of, bit}
use Rattle.js_header.specs.declared.form.Form.{Form}
use Rattle.js_header.specs.declared.form.Form.TheVariants.{Unborn, Flat, Cons, Sliced, Thin}
use Rattle.js_header.proofs.RoundTrip.{form_of-word_of, word_of-form_of}
use Rattle.heap_rule.specs.declared.view.View.{View}
use Rattle.heap_rule.specs.declared.size.HeapSize.{HeapSize}
use Rattle.heap_rule.specs.Layout.{form_at, length_at, content_at, next_id, next_word, form, length_word, content, MAX}
use Rattle.heap_rule.specs.Contents.{whole, solid_by, shape, shape_by, units_by, units_of, units_in, span, lane_in}
use Rattle.heap_rule.specs.Maps.{Has, HasKey}
use Rattle.heap_rule.specs.Forms.{IsCons, IsNarrow, IsLater}
use Rattle.heap_rule.specs.Views.{shown_word}
use Rattle.heap_rule.specs.Sound.{At, IsKept, OwnsIds, OwnsWords, IsStanding, KnowsForm, IsSound, Shows}
use Rattle.heap_rule.specs.Births.{freeze}
use Rattle.heap_rule.proofs.Carried.{false_true}
use Rattle.heap_rule.proofs.MapLemmas.{has_insert, has_key, key_of}
use Rattle.heap_rule.proofs.UnitLemmas.{units_step, flat_same, lane_same}
use Rattle.heap_rule.proofs.Birth.{has_without, has_frozen, length_span, narrow_span, shown_by}
use Rattle.heap_rule.proofs.ListLemmas.{each_set}
use Rattle.heap_rule.proofs.Agreement.{Agrees, Turned, low}
use Rattle.heap_rule.proofs.OneView.{one_view, no_slot}
use Rattle.heap_rule.proofs.Steps.{added_keep, free_by, knew, recalled}

small_bit : (b : Bool) → bit b < 2
small_bit true = omega arith
small_bit false = omega arith

-- the word of a Cons is no word of a later form
cons_stays : (old now : Form) → IsCons old → IsLater old now → word_of now ≡ word_of old → ⊥
cons_stays (Cons w l r) (Flat a s false) h g e = let p = small_bit w in let q = small_bit a in omega arith
cons_stays (Cons w l r) (Thin t) h g e = let p = small_bit w in omega arith
cons_stays (Cons w l r) Unborn h g e = false_true g
cons_stays (Cons w l r) (Flat a s true) h g e = false_true g
cons_stays (Cons w l r) (Cons a s t) h g e = false_true g
cons_stays (Cons w l r) (Sliced a s t) h g e = false_true g
cons_stays Unborn now h g e = h
cons_stays (Flat a b c) now h g e = h
cons_stays (Sliced a b c) now h g e = h
cons_stays (Thin a) now h g e = h

cons_then : (old : Form) (wide : Bool) (start : ℕ) → IsCons old → IsLater old (Flat wide start false)
cons_then (Cons w l r) wide start h = refl
cons_then Unborn wide start h = absurd h
cons_then (Flat a b c) wide start h = absurd h
cons_then (Sliced a b c) wide start h = absurd h
cons_then (Thin a) wide start h = absurd h

-- a rope is not empty
rope_long : (z : HeapSize) (W : List ℕ) (vs : List View) (i : ℕ) (old : Form) → IsCons old → Shows z W vs i old → 13 ≤ length_word z W i
rope_long z W vs i (Cons wide left right) h s = s.7
rope_long z W vs i Unborn h s = absurd h
rope_long z W vs i (Flat a b c) h s = absurd h
rope_long z W vs i (Sliced a b c) h s = absurd h
rope_long z W vs i (Thin a) h s = absurd h

no_flat : (old : Form) (wide : Bool) (start : ℕ) → IsCons old → old ≡ Flat wide start true → ⊥
no_flat old wide start h e = subst IsCons e h

module _ (z : HeapSize) (agents : ℕ) (W : List ℕ) (vs : List View) (s : IsSound z agents W vs) (j : ℕ) (v : View) (at : At vs j v) (live : v.live ≡ true)
    (i : ℕ) (old : Form) (seen : Has v.forms i old) (cons : IsCons old) (hit : form z W i ≡ word_of old) (us : List ℕ) (units : Has v.units i us) (wide : Bool) (start : ℕ) (range : start < 2 ^ 29)
    (own : (c : ℕ) → start ≤ c → c < start + words_over wide (length us) → HasKey v.own_words c)
    (lanes : (o : ℕ) → length us ≤ o → o < words_over wide (length us) * lane_count wide → lane_in (shown_word v) wide start o ≡ 0)
    (spells : span (shown_word v) wide start 0 (length us) ≡ us) where
  abbrev f : Form
  f = Flat wide start false

  abbrev n : ℕ
  n = length us

  abbrev w : View
  w = record (freeze v start (words_over wide n)) { forms = insert v.forms i f }

  abbrev W' : List ℕ
  W' = set W (form_at z i) (word_of f)

  abbrev vs' : List View
  vs' = set vs j w

  known : KnowsForm z W vs i old
  known = (s.knows j v at live).of_forms i old seen

  units_were : units_of z W i ≡ us
  units_were = ((s.knows j v at live).of_units i us units).1

  inside : i < z.ids
  inside = known.born.0

  still : old ≡ known.now
  still = ⊎_elim (λ e. e) (λ l. absurd (cons_stays old known.now cons l (word_of-form_of (form z W i) known.now known.decodes ∙ hit))) known.later

  was : form_of (form z W i) ≡ Some old
  was = known.decodes ∙ ap Some (sym still)

  forms : (k : ℕ) → k ≢ i → form z W' k ≡ form z W k
  forms k ne = get_or-set_other W (form_at z i) (form_at z k) (word_of f) 0 (λ e. ne (omega arith))

  lengths : (k : ℕ) → length_word z W' k ≡ length_word z W k
  lengths k = get_or-set_other W (form_at z i) (length_at z k) (word_of f) 0 (λ e. omega arith)

  contents : (c : ℕ) → content z W' c ≡ content z W c
  contents c = let h = inside in get_or-set_other W (form_at z i) (content_at z c) (word_of f) 0 (λ e. omega arith)

  ids_same : next_id W' ≡ next_id W
  ids_same = get_or-set_other W (form_at z i) 0 (word_of f) 0 (λ e. omega arith)

  words_same : next_word W' ≡ next_word W
  words_same = get_or-set_other W (form_at z i) 1 (word_of f) 0 (λ e. omega arith)

  back : (c : ℕ) → HasKey w.own_words c → HasKey v.own_words c
  back c h = let p = has_key w.own_words c h in key_of v.own_words c p.0 (has_without v.own_words start (words_over wide n) c p.0 p.1).1

  decodes : form_of (form z W' i) ≡ Some f
  decodes = let long = s.counted.long in let h = inside in ap form_of (get_or-set_same W (form_at z i) (word_of f) 0 (omega arith)) ∙ form_of-word_of f range

  kept : (c : ℕ) → start ≤ c → c < start + words_over wide n → IsKept W' vs' c
  kept c lo hi = let b = words_same in let h = own c lo hi in let p = has_key v.own_words c h in let o = (s.own_words j v at live).each c p.0 p.1 in let below = o.0 in record {
    below = omega arith;
    free = each_set (λ _ u. HasKey u.own_words c → ⊥) vs j w
        (λ g. let q = has_key w.own_words c g in
        let out = (has_without v.own_words start (words_over wide n) c q.0 q.1).0 in ⊎_elim (λ (l : c < start). absurd (omega arith))
        (λ (l : start + words_over wide n ≤ c). absurd (omega arith)) out)
        (λ k u ne e l g. s.words_apart j v at live k u e l (λ x'. ne (sym x')) c h g);
  }

  shown_is : (c : ℕ) → start ≤ c → c < start + words_over wide n → shown_word v c ≡ content z W' c
  shown_is c lo hi = shown_by (get v.own_words c) (get v.frozen c) (content z W' c)
      (λ x h. contents c ∙ ((s.own_words j v at live).each c x h).1) (λ x h. contents c ∙ ((s.knows j v at live).of_frozen c x h).1) (inl (own c lo hi))

  length_now : length_word z W' i ≡ n
  length_now = lengths i ∙ ((s.standing i known.born).length_is ∙ ap length units_were)

  span_now : span (content z W') wide start 0 (length_word z W' i) ≡ units_of z W i
  span_now = ap (λ (m : ℕ). span (content z W') wide start 0 m) length_now ∙ (sym (flat_same (shown_word v) (content z W') wide start n shown_is) ∙ (spells ∙ sym units_were))

  whole_now : shape z W' i ≡ whole (units_of z W i)
  unfolding shape
  whole_now = ap (shape_by z W' i) decodes ∙ ap whole span_now

  units_now : units_of z W' i ≡ span (content z W') wide start 0 (length_word z W' i)
  unfolding shape
  units_now = units_step (shape z W') (low z W') i ∙ ap (λ (o : Option Form). units_by (units_in (shape z W')) (shape_by z W' i o)) decodes

  lane_now : (b : Bool) (o : ℕ) → o < words_over b n * lane_count b → ((c : ℕ) → start ≤ c → c < start + words_over b n → shown_word v c ≡
      content z W' c) → lane_in (shown_word v) b start o ≡ lane_in (content z W') b start o
  lane_now true o h e = lane_same (shown_word v) (content z W') true start o (e (start + o / 4) (omega arith) (omega arith))
  lane_now false o h e = lane_same (shown_word v) (content z W') false start o (e (start + o / 8) (omega arith) (omega arith))

  kept_now : (c : ℕ) → start ≤ c → c < start + words_over wide (length_word z W' i) → IsKept W' vs' c
  kept_now c lo hi = kept c lo (subst (λ (m : ℕ). c < start + words_over wide m) length_now hi)

  zeros_now : (o : ℕ) → length_word z W' i ≤ o → o < words_over wide (length_word z W' i) * lane_count wide → lane_in (content z W') wide start o ≡ 0
  zeros_now o lo hi = let hi' : o < words_over wide n * lane_count wide = subst (λ (m : ℕ). o < words_over wide m * lane_count wide) length_now hi in
      sym (lane_now wide o hi' shown_is) ∙ lanes o (subst (λ (m : ℕ). m ≤ o) length_now lo) hi'

  narrow_now : IsNarrow wide (units_of z W' i)
  narrow_now = subst (IsNarrow wide) (sym units_now) (narrow_span (content z W') wide start 0 (length_word z W' i))

  start_now : length_word z W' i ≡ 0 → start ≡ 0
  start_now e = let long = rope_long z W vs i old cons known.shows in let same = lengths i in absurd (omega arith)

  standing : IsStanding z W' vs' i
  standing = record {
    now = f;
    decodes = decodes;
    below = (let a = ids_same in let b = (s.standing i known.born).below in omega arith);
    length_is = sym (ap length units_now ∙ length_span (content z W') wide start 0 (length_word z W' i));
    short = subst (λ (m : ℕ). m ≤ MAX) (sym (lengths i)) (s.standing i known.born).short;
    stands = (kept_now, zeros_now, narrow_now, start_now);
  }

  turned : Turned z W W' vs' i
  turned = record {
    born = λ e. (let d : Some Unborn ≡ Some f = ap form_of (sym e) ∙ decodes in cc);
    whole_now = whole_now;
    solid_now = ap (solid_by z W' i) decodes ∙ span_now;
    moving = λ a b e. no_flat old a b cons (let d : Some old ≡ Some (Flat a b true) = sym was ∙ e in cc);
    next = f;
    decodes = decodes;
    solid_form = tt;
    later = λ g e. (let d : Some old ≡ Some g = sym was ∙ e in let same : old ≡ g = cc in subst (λ (h : Form). IsLater h f) same (cons_then old wide start cons));
    stands = standing;
  }

  pub agrees_flattening : Agrees z W vs W' vs'
  agrees_flattening = let a = ids_same in let b = words_same in record {
    ids = omega arith;
    words = omega arith;
    forms = λ k b. dite (ℕ_discrete k i) (λ e. inr (subst (Turned z W W' vs') (sym e) turned)) (λ ne. inl (forms k ne));
    lengths = λ k b. lengths k;
    contents = λ c k. contents c;
    slots = λ k h. inl (get_or-set_other W (form_at z i) (2 + k) (word_of f) 0 (λ e. omega arith));
    free = free_by z agents W vs s j v at live w (λ c _ h. back c h);
  }

  unborn_stay : (q : ℕ) → form z W q ≡ 0 → q ≢ i
  unborn_stay q h e = known.born.1 (subst (λ (y : ℕ). form z W y ≡ 0) e h)

  moved_ids : (m : FinMap nat_cmp ℕ) → OwnsIds z W m → OwnsIds z W' m
  moved_ids m o = record { each = λ k y h. let t = o.each k y h in let a = ids_same in let b = t.0 in (omega arith, forms k (unborn_stay k t.1) ∙ t.1, lengths k ∙ t.2, t.3) }

  moved_words : (m : FinMap nat_cmp ℕ) → OwnsWords z W m → OwnsWords z W' m
  moved_words m o = record { each = λ c y h. let t = o.each c y h in let a = words_same in let b = t.0 in (omega arith, contents c ∙ t.1) }

  pub keeps_flattening : IsSound z agents W' vs'
  keeps_flattening = let k = knew z agents W vs s j v at live W' w agrees_flattening in let counted = s.counted in let a = ids_same in
      let b = words_same in one_view z agents W vs j v W' w s at live record {
        live = live;
        agrees = agrees_flattening;
        counted = record {
          long = length-set W (form_at z i) (word_of f) ∙ counted.long;
          ids_end = (let h = counted.ids_end in omega arith);
          words_end = (let h = counted.words_end in omega arith);
          no_form = λ q lo hi. forms q (λ e. let m = (s.standing i known.born).below in omega arith) ∙ counted.no_form q (omega arith) hi;
          no_length = λ q lo hi. lengths q ∙ counted.no_length q (omega arith) hi;
          no_content = λ c lo hi. contents c ∙ counted.no_content c (omega arith) hi;
        };
        newborn = λ q h. dite (ℕ_discrete q i) (λ e. inr (subst (λ (y : ℕ). IsStanding z W' vs' y) (sym e) standing)) (λ ne. inl (h.0, λ e. h.1 (forms q ne ∙ e)));
        own_ids = moved_ids v.own_ids (s.own_ids j v at live);
        own_words = record { each = λ c y h. let t = has_without v.own_words start (words_over wide n) c y h in (moved_words v.own_words (s.own_words j v at live)).each c y t.1 };
        others_ids = λ q u ne e l. (moved_ids u.own_ids (s.own_ids q u e l), s.ids_apart j v at live q u e l (λ x'. ne (sym x')));
        others_words = λ q u ne e l. (moved_words u.own_words (s.own_words q u e l), λ c h g. s.words_apart j v at live q u e l (λ x'. ne (sym x')) c (back c h) g);
        knows = record {
          of_met = k.of_met;
          of_units = k.of_units;
          of_forms = λ q g h. ⊎_elim (λ (t : (q ≡ i) × (f ≡ g)). subst (λ (y : ℕ × Form). KnowsForm z W' vs' y.0 y.1)
              (λ d. (sym t.0 d, t.1 d)) record {
                born = (inside, turned.born);
                now = f;
                decodes = decodes;
                later = inl refl;
                shows = (units_now, kept_now, zeros_now, narrow_now, start_now);
              })
              (λ (t : (q ≢ i) × Has v.forms q g). k.of_forms q g t.1) (has_insert v.forms i q f g h);
          of_lengths = k.of_lengths;
          of_frozen = λ c x h. ⊎_elim (λ (t : (start ≤ c) × (c < start + words_over wide n) × Has v.own_words c x).
              (kept c t.0 t.1, contents c ∙ ((s.own_words j v at live).each c x t.2).1)) (λ t. k.of_frozen c x t)
              (has_frozen v.own_words v.frozen start (words_over wide n) c x h);
          of_slots = k.of_slots;
        };
        recalls = recalled z agents W vs s j v at live W' w agrees_flattening;
        mine = λ u q h. h;
        added = added_keep z agents W vs s j v at live w live refl refl W' a b;
        low = (let q = s.lows j v at live in let q0 = q.0 in let q1 = q.1 in (omega arith, omega arith));
        member = s.members j v at live;
        new_slots = no_slot z W vs W' vs' (λ k h. get_or-set_other W (form_at z i) (2 + k) (word_of f) 0 (λ e. omega arith));
      }
