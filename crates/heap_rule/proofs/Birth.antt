-- The birth of a Flat keeps the rule.
use Rattle.std.proofs.Common.{◌≡◌, ◌≢◌, ℕ, zero, suc, ◌+◌, ◌*◌, ◌/◌, ◌%◌, ◌^◌, ◌<◌, ◌≤◌, ◌⊎◌, inl, inr, ⊎_elim, Bool, true, false, List, length, set, sym, refl}
use Rattle.std.proofs.Common.{ap, ◌∙◌, subst, arith, Option, Some, None, IsTrue, get_or-set_other, get_or-set_same, length-set}
use Rattle.std.specs.Prelude.{All, unwrap_or, is_some}
use mathlib.Core.Logic.{dite}
use native.Mathlib.Decide.{ℕ_discrete, dec_le}
use Rattle.std.specs.FinMap.{FinMap, get, remove}
use Rattle.std.specs.Ordering.{nat_cmp}
use Rattle.js_units.specs.Lanes.{lane_count, lane_of, words_over}
use Rattle.js_header.specs.Form.{form_of, word_of}
use Rattle.js_header.specs.declared.form.Form.{Form}
use Rattle.js_header.specs.declared.form.Form.TheVariants.{Unborn, Flat}
use Rattle.js_header.proofs.RoundTrip.{form_of-word_of}
use Rattle.heap_rule.specs.declared.view.View.{View}
use Rattle.heap_rule.specs.declared.size.HeapSize.{HeapSize}
use Rattle.heap_rule.specs.Layout.{form_at, length_at, content_at, next_id, next_word, form, length_word, content, IsBorn, MAX}
use Rattle.heap_rule.specs.Contents.{shape, shape_by, units_by, units_of, units_in, span, lane_in}
use Rattle.heap_rule.specs.Maps.{Has, HasKey, without_run, with_run_of, put_some}
use Rattle.heap_rule.specs.Forms.{IsNarrow}
use Rattle.heap_rule.specs.Views.{shown_word}
use Rattle.heap_rule.specs.Sound.{At, IsKept, OwnsIds, OwnsWords, IsStanding, KnowsForm, IsSound}
use Rattle.heap_rule.specs.Births.{FormFits, born_with, units_for}
use Rattle.heap_rule.proofs.MapLemmas.{has_insert, has_remove, has_key, key_of}
use Rattle.heap_rule.proofs.UnitLemmas.{units_step, flat_same, lane_same}
use Rattle.heap_rule.proofs.ListLemmas.{each_set}
use Rattle.heap_rule.proofs.Agreement.{Agrees, low, kept_then}
use Rattle.heap_rule.proofs.OneView.{one_view, no_slot}
use Rattle.heap_rule.proofs.Steps.{added_keep, free_by, knew, recalled}

module _ {X : Type 0} where
  pub has_without : (m : FinMap nat_cmp X) (c n q : ℕ) (x : X) → Has (without_run m c n) q x → ((q < c) ⊎ (c + n ≤ q)) × Has m q x
  has_without m c zero q x h = (dite (dec_le c q) (λ l. inr (omega arith)) (λ l. inl (omega arith)), h)
  has_without m c (suc n) q x h = let t = has_without (remove m c) (suc c) n q x h in let r = has_remove m c q x t.1 in let ne = r.0 in
      (⊎_elim (λ (l : q < suc c). inl (omega arith)) (λ (l : suc c + n ≤ q). inr (omega arith)) t.0, r.1)

  has_put : (m : FinMap nat_cmp X) (c : ℕ) (o : Option X) (q : ℕ) (x : X) → Has (put_some m c o) q x → ((q ≡ c) × (o ≡ Some x)) ⊎ Has m q x
  has_put m c None q x h = inr h
  has_put m c (Some y) q x h = ⊎_elim (λ (t : (q ≡ c) × (y ≡ x)). inl (t.0, ap Some t.1)) (λ (t : (q ≢ c) × Has m q x). inr t.1) (has_insert m c q y x h)

  pub has_frozen : (own m : FinMap nat_cmp X) (c n q : ℕ) (x : X) → Has (with_run_of own m c n) q x → ((c ≤ q) × (q < c + n) × Has own q x) ⊎ Has m q x
  has_frozen own m c zero q x h = inr h
  has_frozen own m c (suc n) q x h = ⊎_elim (λ (t : (suc c ≤ q) × (q < suc c + n) × Has own q x). let lo = t.0 in let hi = t.1 in inl (omega arith, omega arith, t.2))
      (λ (t : Has (put_some m c (get own c)) q x). ⊎_elim (λ (s : (q ≡ c) × (get own c ≡ Some x)). let e = s.0 in inl
      (omega arith, omega arith, ap (get own) s.0 ∙ s.1)) (λ s. inr s) (has_put m c (get own c) q x t))
      (has_frozen own (put_some m c (get own c)) (suc c) n q x h)

pub length_span : (f : ℕ → ℕ) (wide : Bool) (start o n : ℕ) → length (span f wide start o n) ≡ n
length_span f wide start o zero = refl
length_span f wide start o (suc n) = omega (arith, length_span f wide start (suc o) n)

lane_small : (f : ℕ → ℕ) (start o : ℕ) → lane_in f false start o < 256
unfolding lane_in lane_of
lane_small f start o = let x : ℕ = f (start + o / 8) / 256 ^ (o % 8) in let goal : x % 256 < 256 = omega arith in goal

all_small : (f : ℕ → ℕ) (start o n : ℕ) → All (λ u. u < 256) (span f false start o n)
all_small f start o zero k d l = absurd (omega arith)
all_small f start o (suc n) zero d l = lane_small f start o
all_small f start o (suc n) (suc k) d l = all_small f start (suc o) n k d (omega arith)

pub narrow_span : (f : ℕ → ℕ) (wide : Bool) (start o n : ℕ) → IsNarrow wide (span f wide start o n)
narrow_span f true start o n = tt
narrow_span f false start o n = all_small f start o n

pub shown_by : (o f : Option ℕ) (t : ℕ) → ((x : ℕ) → o ≡ Some x → t ≡ x) → ((x : ℕ) → f ≡ Some x → t ≡ x) → IsTrue (is_some o) ⊎ IsTrue (is_some f) → unwrap_or o (unwrap_or f 0) ≡ t
shown_by (Some x) f t h k e = sym (h x refl)
shown_by None (Some x) t h k e = sym (k x refl)
shown_by None None t h k e = ⊎_elim (λ (g : false ≡ true). absurd (cc)) (λ (g : false ≡ true). absurd (cc)) e

module _ (z : HeapSize) (agents : ℕ) (W : List ℕ) (vs : List View) (s : IsSound z agents W vs) (j : ℕ) (v : View) (at : At vs j v) (live : v.live ≡ true)
    (i n : ℕ) (own : Has v.own_ids i n) (wide : Bool) (start : ℕ) (fixed : Bool) (fits : FormFits v i n (Flat wide start fixed)) where
  abbrev f : Form
  f = Flat wide start fixed

  abbrev w : View
  w = born_with v i n f

  abbrev W' : List ℕ
  W' = set W (form_at z i) (word_of f)

  abbrev vs' : List View
  vs' = set vs j w

  mine : (i < next_id W) × (form z W i ≡ 0) × (length_word z W i ≡ n) × (n ≤ MAX)
  mine = (s.own_ids j v at live).each i n own

  inside : i < z.ids
  inside = let a = mine.0 in let b = s.counted.ids_end in omega arith

  forms : (k : ℕ) → k ≢ i → form z W' k ≡ form z W k
  forms k ne = get_or-set_other W (form_at z i) (form_at z k) (word_of f) 0 (λ e. ne (omega arith))

  lengths : (k : ℕ) → length_word z W' k ≡ length_word z W k
  lengths k = get_or-set_other W (form_at z i) (length_at z k) (word_of f) 0 (λ e. omega arith)

  contents : (c : ℕ) → content z W' c ≡ content z W c
  contents c = let h = inside in get_or-set_other W (form_at z i) (content_at z c) (word_of f) 0 (λ e. omega arith)

  ids_same : next_id W' ≡ next_id W
  ids_same = get_or-set_other W (form_at z i) 0 (word_of f) 0 (λ e. omega arith)

  words_same : next_word W' ≡ next_word W
  words_same = get_or-set_other W (form_at z i) 1 (word_of f) 0 (λ e. omega arith)

  back : (c : ℕ) → HasKey w.own_words c → HasKey v.own_words c
  back c h = let p = has_key w.own_words c h in key_of v.own_words c p.0 (has_without v.own_words start (words_over wide n) c p.0 p.1).1

  pub agrees : Agrees z W vs W' vs'
  agrees = let a = ids_same in let b = words_same in record {
    ids = omega arith;
    words = omega arith;
    forms = λ k b. inl (forms k (λ e. b.1 (subst (λ (y : ℕ). form z W y ≡ 0) (sym e) mine.1)));
    lengths = λ k b. lengths k;
    contents = λ c k. contents c;
    slots = λ k h. inl (get_or-set_other W (form_at z i) (2 + k) (word_of f) 0 (λ e. omega arith));
    free = free_by z agents W vs s j v at live w (λ c _ h. back c h);
  }

  decodes : form_of (form z W' i) ≡ Some f
  decodes = let long = s.counted.long in let h = inside in ap form_of (get_or-set_same W (form_at z i) (word_of f) 0 (omega arith)) ∙ form_of-word_of f fits.0

  pub born_now : IsBorn z W' i
  born_now = (inside, λ e. let d : Some Unborn ≡ Some f = ap form_of (sym e) ∙ decodes in cc)

  -- a word of the span is kept from now on
  kept : (c : ℕ) → start ≤ c → c < start + words_over wide n → IsKept W' vs' c
  kept c lo hi = let b = words_same in ⊎_elim
      (λ (h : HasKey v.own_words c). let p = has_key v.own_words c h in let o = (s.own_words j v at live).each c p.0 p.1 in let below = o.0 in record {
        below = omega arith;
        free = each_set (λ _ u. HasKey u.own_words c → ⊥) vs j w
            (λ g. let q = has_key w.own_words c g in
            let out = (has_without v.own_words start (words_over wide n) c q.0 q.1).0 in ⊎_elim (λ (l : c < start). absurd (omega arith))
            (λ (l : start + words_over wide n ≤ c). absurd (omega arith)) out)
            (λ k u ne e l g. s.words_apart j v at live k u e l (λ x'. ne (sym x')) c h g);
      })
      (λ (h : HasKey v.frozen c). let p = has_key v.frozen c h in kept_then z W vs s.standing W' vs' agrees c ((s.knows j v at live).of_frozen c p.0 p.1).0)
      (fits.1 c lo hi)

  shown_is : (c : ℕ) → start ≤ c → c < start + words_over wide n → shown_word v c ≡ content z W' c
  shown_is c lo hi = shown_by (get v.own_words c) (get v.frozen c) (content z W' c)
      (λ x h. contents c ∙ ((s.own_words j v at live).each c x h).1) (λ x h. contents c ∙ ((s.knows j v at live).of_frozen c x h).1) (fits.1 c lo hi)

  length_now : length_word z W' i ≡ n
  length_now = lengths i ∙ mine.2

  units_now : units_of z W' i ≡ span (content z W') wide start 0 (length_word z W' i)
  unfolding shape
  units_now = units_step (shape z W') (low z W') i ∙ ap (λ (o : Option Form). units_by (units_in (shape z W')) (shape_by z W' i o)) decodes

  units_are : units_of z W' i ≡ units_for v n f
  units_are = units_now ∙ (ap (λ (m : ℕ). span (content z W') wide start 0 m) length_now ∙ sym (flat_same (shown_word v) (content z W') wide start n shown_is))

  lane_now : (b : Bool) (o : ℕ) → o < words_over b n * lane_count b → ((c : ℕ) → start ≤ c → c < start + words_over b n → shown_word v c ≡
      content z W' c) → lane_in (shown_word v) b start o ≡ lane_in (content z W') b start o
  lane_now true o h e = lane_same (shown_word v) (content z W') true start o (e (start + o / 4) (omega arith) (omega arith))
  lane_now false o h e = lane_same (shown_word v) (content z W') false start o (e (start + o / 8) (omega arith) (omega arith))

  kept_now : (c : ℕ) → start ≤ c → c < start + words_over wide (length_word z W' i) → IsKept W' vs' c
  kept_now c lo hi = kept c lo (subst (λ (m : ℕ). c < start + words_over wide m) length_now hi)

  zeros_now : (o : ℕ) → length_word z W' i ≤ o → o < words_over wide (length_word z W' i) * lane_count wide → lane_in (content z W') wide start o ≡ 0
  zeros_now o lo hi = let hi' : o < words_over wide n * lane_count wide = subst (λ (m : ℕ). o < words_over wide m * lane_count wide) length_now hi in
      sym (lane_now wide o hi' shown_is) ∙ fits.2 o (subst (λ (m : ℕ). m ≤ o) length_now lo) hi'

  narrow_now : IsNarrow wide (units_of z W' i)
  narrow_now = subst (IsNarrow wide) (sym units_now) (narrow_span (content z W') wide start 0 (length_word z W' i))

  start_now : length_word z W' i ≡ 0 → start ≡ 0
  start_now e = fits.3 (sym length_now ∙ e)

  standing : IsStanding z W' vs' i
  standing = record {
    now = f;
    decodes = decodes;
    below = (let a = ids_same in let b = mine.0 in omega arith);
    length_is = sym (ap length units_now ∙ length_span (content z W') wide start 0 (length_word z W' i));
    short = subst (λ (m : ℕ). m ≤ MAX) (sym length_now) mine.3;
    stands = (kept_now, zeros_now, narrow_now, start_now);
  }

  moved_ids : (m : FinMap nat_cmp ℕ) → ((k : ℕ) → HasKey m k → k ≢ i) → OwnsIds z W m → OwnsIds z W' m
  moved_ids m ne o = record { each = λ k y h. let t = o.each k y h in let a = ids_same in let b = t.0 in (omega arith, forms k (ne k (key_of m k y h)) ∙ t.1, lengths k ∙ t.2, t.3) }

  moved_words : (m : FinMap nat_cmp ℕ) → OwnsWords z W m → OwnsWords z W' m
  moved_words m o = record { each = λ c y h. let t = o.each c y h in let a = words_same in let b = t.0 in (omega arith, contents c ∙ t.1) }

  pub keeps_birth : IsSound z agents W' vs'
  keeps_birth = let k = knew z agents W vs s j v at live W' w agrees in let counted = s.counted in let a = ids_same in let b = words_same in one_view z agents W vs j v W' w s at live record {
    live = live;
    agrees = agrees;
    counted = record {
      long = length-set W (form_at z i) (word_of f) ∙ counted.long;
      ids_end = (let h = counted.ids_end in omega arith);
      words_end = (let h = counted.words_end in omega arith);
      no_form = λ q lo hi. forms q (λ e. let m = mine.0 in omega arith) ∙ counted.no_form q (omega arith) hi;
      no_length = λ q lo hi. lengths q ∙ counted.no_length q (omega arith) hi;
      no_content = λ c lo hi. contents c ∙ counted.no_content c (omega arith) hi;
    };
    newborn = λ q h. dite (ℕ_discrete q i) (λ e. inr (subst (λ (y : ℕ). IsStanding z W' vs' y) (sym e) standing)) (λ ne. inl (h.0, λ e. h.1 (forms q ne ∙ e)));
    own_ids = record { each = λ q y h. let t = has_remove v.own_ids i q y h in let o = (s.own_ids j v at live).each q y t.1 in let l = o.0 in (omega arith, forms q t.0 ∙ o.1, lengths q ∙ o.2, o.3) };
    own_words = record { each = λ c y h. let t = has_without v.own_words start (words_over wide n) c y h in (moved_words v.own_words (s.own_words j v at live)).each c y t.1 };
    others_ids = λ q u ne e l. let apart = s.ids_apart j v at live q u e l (λ x'. ne (sym x')) in (
      moved_ids u.own_ids (λ y h same. apart i (key_of v.own_ids i n own) (subst (HasKey u.own_ids) same h)) (s.own_ids q u e l),
      λ y h g. let p = has_key w.own_ids y h in apart y (key_of v.own_ids y p.0 (has_remove v.own_ids i y p.0 p.1).1) g,
    );
    others_words = λ q u ne e l. (moved_words u.own_words (s.own_words q u e l), λ c h g. s.words_apart j v at live q u e l (λ x'. ne (sym x')) c (back c h) g);
    knows = record {
      of_met = k.of_met;
      of_units = λ q us h. ⊎_elim (λ (t : (q ≡ i) × (units_for v n f ≡ us)).
          (subst (IsBorn z W') (sym t.0) born_now, ap (units_of z W') t.0 ∙ (units_are ∙ t.1)))
          (λ (t : (q ≢ i) × Has v.units q us). k.of_units q us t.1) (has_insert v.units i q (units_for v n f) us h);
      of_forms = λ q g h. ⊎_elim (λ (t : (q ≡ i) × (f ≡ g)). subst (λ (y : ℕ × Form). KnowsForm z W' vs' y.0 y.1)
          (λ d. (sym t.0 d, t.1 d)) record {
            born = born_now;
            now = f;
            decodes = decodes;
            later = inl refl;
            shows = (units_now, kept_now, zeros_now, narrow_now, start_now);
          })
          (λ (t : (q ≢ i) × Has v.forms q g). k.of_forms q g t.1) (has_insert v.forms i q f g h);
      of_lengths = λ q m h. ⊎_elim (λ (t : (q ≡ i) × (n ≡ m)). (
        subst (IsBorn z W') (sym t.0) born_now,
        ap (λ (y : ℕ). length_word z W' y)
            t.0 ∙ (length_now ∙ t.1),
      )) (λ (t : (q ≢ i) × Has v.lengths q m). k.of_lengths q m t.1) (has_insert v.lengths i q n m h);
      of_frozen = λ c x h. ⊎_elim (λ (t : (start ≤ c) × (c < start + words_over wide n) × Has v.own_words c x).
          (kept c t.0 t.1, contents c ∙ ((s.own_words j v at live).each c x t.2).1)) (λ t. k.of_frozen c x t)
          (has_frozen v.own_words v.frozen start (words_over wide n) c x h);
      of_slots = k.of_slots;
    };
    recalls = recalled z agents W vs s j v at live W' w agrees;
    mine = λ u q h. h;
    added = added_keep z agents W vs s j v at live w live refl refl W' a b;
    low = (let q = s.lows j v at live in let q0 = q.0 in let q1 = q.1 in (omega arith, omega arith));
    member = s.members j v at live;
    new_slots = no_slot z W vs W' vs' (λ k h. get_or-set_other W (form_at z i) (2 + k) (word_of f) 0 (λ e. omega arith));
  }
