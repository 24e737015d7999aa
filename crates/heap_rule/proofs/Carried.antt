-- A step that moves no form keeps each part of the rule that speaks of born ids.
use Rattle.std.proofs.Common.{refl, ◌≡◌, ℕ, ◌+◌, ◌*◌, ◌/◌, ◌<◌, ◌≤◌, inr, ⊎_elim, Bool, true, false, List, ◌++◌, take, drop, length, sym, ap, ◌∙◌, subst, arith, Some}
use Rattle.js_units.specs.Lanes.{lane_count, words_over}
use Rattle.js_header.specs.Form.{form_of}
use Rattle.js_header.specs.declared.form.Form.{Form}
use Rattle.js_header.specs.declared.form.Form.TheVariants.{Unborn, Flat, Cons, Sliced, Thin}
use Rattle.heap_rule.specs.declared.view.View.{View}
use Rattle.heap_rule.specs.declared.size.HeapSize.{HeapSize}
use Rattle.heap_rule.specs.Layout.{slot, form, length_word, content, IsBorn, MAX}
use Rattle.heap_rule.specs.Contents.{units_of, lane_in}
use Rattle.heap_rule.specs.Forms.{IsNarrow, IsLater, IsSolidForm}
use Rattle.heap_rule.specs.Paths.{rank}
use Rattle.heap_rule.specs.Sound.{IsKept, IsStanding, StandsAs, Shows, KnowsForm, Knows, IsUsed, AreSlots, AreDifferent, Recalls}
use Rattle.heap_rule.proofs.UnitLemmas.{lane_same}
use Rattle.heap_rule.proofs.Agreement.{Agrees, Turned, born_then, kept_then, solid_form_then, fixed_stays, span_then, units_then, used_then}

pub false_true : false ≡ true → ⊥
false_true e = cc

pub latest : (f g h : Form) → IsLater f g → IsLater g h → IsLater f h
latest (Cons w l r) (Flat b s false) (Thin t) p q = refl
latest (Cons w l r) (Flat b s false) Unborn p q = q
latest (Cons w l r) (Flat b s false) (Flat b' s' x) p q = absurd (false_true q)
latest (Cons w l r) (Flat b s false) (Cons b' s' x) p q = q
latest (Cons w l r) (Flat b s false) (Sliced b' s' x) p q = q
latest f (Thin t) h p q = absurd (false_true q)
latest f (Flat b s true) h p q = absurd (false_true q)
latest Unborn g h p q = absurd (false_true p)
latest (Flat w s true) g h p q = absurd (false_true p)
latest (Thin t) g h p q = absurd (false_true p)
latest (Cons w l r) Unborn h p q = absurd (false_true p)
latest (Cons w l r) (Cons w' l' r') h p q = absurd (false_true p)
latest (Cons w l r) (Sliced w' l' r') h p q = absurd (false_true p)
latest (Flat w s false) Unborn h p q = absurd (false_true p)
latest (Flat w s false) (Cons w' l' r') h p q = absurd (false_true p)
latest (Flat w s false) (Sliced w' l' r') h p q = absurd (false_true p)
latest (Flat w s false) (Flat w' l' false) h p q = absurd (false_true p)
latest (Sliced w l r) Unborn h p q = absurd (false_true p)
latest (Sliced w l r) (Cons w' l' r') h p q = absurd (false_true p)
latest (Sliced w l r) (Sliced w' l' r') h p q = absurd (false_true p)
latest (Sliced w l r) (Flat w' l' false) h p q = absurd (false_true p)

module _ (z : HeapSize) (W : List ℕ) (vs : List View) (stand : (i : ℕ) → IsBorn z W i → IsStanding z W vs i) (W' : List ℕ) (vs' : List View) (a : Agrees z W vs W' vs') where
  abbrev same : (i : ℕ) → IsBorn z W i → units_of z W i ≡ units_of z W' i
  same = units_then z W vs stand W' vs' a

  abbrev born : (i : ℕ) → IsBorn z W i → IsBorn z W' i
  born = born_then z W vs stand W' vs' a

  abbrev kept : (c : ℕ) → IsKept W vs c → IsKept W' vs' c
  kept = kept_then z W vs stand W' vs' a

  abbrev solid_then : (i : ℕ) → IsBorn z W i → IsSolidForm (form_of (form z W i)) → IsSolidForm (form_of (form z W' i))
  solid_then = solid_form_then z W vs stand W' vs' a

  abbrev fixed : (i : ℕ) (wide : Bool) (start : ℕ) → IsBorn z W i → form_of (form z W i) ≡ Some (Flat wide start true) → form_of (form z W' i) ≡ Some (Flat wide start true)
  fixed i wide start b e = ap form_of (fixed_stays z W vs stand W' vs' a i wide start b e) ∙ e

  narrow_then : (i : ℕ) (wide : Bool) → IsBorn z W i → IsNarrow wide (units_of z W i) → IsNarrow wide (units_of z W' i)
  narrow_then i wide b h = subst (IsNarrow wide) (same i b) h

  kept_span : (i : ℕ) (wide : Bool) (start : ℕ) → IsBorn z W i → ((c : ℕ) → start ≤ c → c < start + words_over wide (length_word z W i) → IsKept W vs c)
      → (c : ℕ) → start ≤ c → c < start + words_over wide (length_word z W' i) → IsKept W' vs' c
  kept_span i wide start b h c lo hi = kept c (h c lo (subst (λ (n : ℕ). c < start + words_over wide n) (a.lengths i b) hi))

  lane_kept : (wide : Bool) (start o n : ℕ) → o < words_over wide n * lane_count wide → ((c : ℕ) → start ≤ c → c < start + words_over wide n
      → IsKept W vs c) → lane_in (content z W') wide start o ≡ lane_in (content z W) wide start o
  lane_kept true start o n h k = lane_same (content z W') (content z W) true start o (a.contents (start + o / 4) (k (start + o / 4) (omega arith) (omega arith)))
  lane_kept false start o n h k = lane_same (content z W') (content z W) false start o (a.contents (start + o / 8) (k (start + o / 8) (omega arith) (omega arith)))

  lanes_then : (i : ℕ) (wide : Bool) (start : ℕ) → IsBorn z W i → ((c : ℕ) → start ≤ c → c < start + words_over wide (length_word z W i) → IsKept W vs c)
      → ((o : ℕ) → length_word z W i ≤ o → o < words_over wide (length_word z W i) * lane_count wide → lane_in (content z W) wide start o ≡ 0)
      → (o : ℕ) → length_word z W' i ≤ o → o < words_over wide (length_word z W' i) * lane_count wide → lane_in (content z W') wide start o ≡ 0
  lanes_then i wide start b kept_words zeros o lo hi =
      let hi' : o < words_over wide (length_word z W i) * lane_count wide = subst (λ (n : ℕ). o < words_over wide n * lane_count wide) (a.lengths i b) hi in
      lane_kept wide start o (length_word z W i) hi' kept_words ∙ zeros o (subst (λ (n : ℕ). n ≤ o) (a.lengths i b) lo) hi'

  long_then : (i : ℕ) → IsBorn z W i → 13 ≤ length_word z W i → 13 ≤ length_word z W' i
  long_then i b h = subst (λ (n : ℕ). 13 ≤ n) (sym (a.lengths i b)) h

  some_then : (i : ℕ) → IsBorn z W i → 1 ≤ length (units_of z W i) → 1 ≤ length (units_of z W' i)
  some_then i b h = subst (λ (u : List ℕ). 1 ≤ length u) (same i b) h

  stands_then : (i : ℕ) (f : Form) → IsBorn z W i → StandsAs z W vs i f → StandsAs z W' vs' i f
  stands_then i Unborn b s = absurd s
  stands_then i (Flat wide start fixed) b s = (kept_span i wide start b s.0, lanes_then i wide start b s.0 s.1, narrow_then i wide b s.2, λ e. s.3 (sym (a.lengths i b) ∙ e))
  stands_then i (Cons wide left right) b s = (
    s.0,
    s.1,
    born left s.2,
    born right s.3,
    some_then left s.2 s.4,
    some_then right s.3 s.5,
    long_then i b s.6,
    narrow_then i wide b s.7,
  )
  stands_then i (Sliced wide parent offset) b s = (
    s.0,
    born parent s.1,
    solid_then parent s.1 s.2,
    subst (λ (n : ℕ). offset + n ≤ length (units_of z W' parent)) (sym (a.lengths i b)) (subst (λ (u : List ℕ). offset + length_word z W i ≤ length u) (same parent s.1) s.3),
    long_then i b s.4,
    narrow_then i wide b s.5,
  )
  stands_then i (Thin target) b s = (
    born target s.0,
    (s.1.0, s.1.1, fixed target s.1.0 s.1.1 s.0 s.1.2),
    sym (same target s.0) ∙ (s.2 ∙ same i b),
    (s.3.0, s.3.1, used_then z W vs stand W' vs' a s.3.0 target s.3.1 s.3.2),
  )

  stood_then : (i : ℕ) → IsBorn z W i → form z W' i ≡ form z W i → IsStanding z W' vs' i
  stood_then i b keep = let s = stand i b in record {
    now = s.now;
    decodes = ap form_of keep ∙ s.decodes;
    below = (let l = s.below in let m = a.ids in omega arith);
    length_is = a.lengths i b ∙ (s.length_is ∙ ap length (same i b));
    short = subst (λ (n : ℕ). n ≤ MAX) (sym (a.lengths i b)) s.short;
    stands = stands_then i s.now b s.stands;
  }

  pub standing_then : (i : ℕ) → IsBorn z W i → IsStanding z W' vs' i
  standing_then i b = ⊎_elim (stood_then i b) (λ (t : Turned z W W' vs' i). t.stands) (a.forms i b)

  shows_then : (i : ℕ) (f : Form) → IsBorn z W i → Shows z W vs i f → Shows z W' vs' i f
  shows_then i Unborn b s = absurd s
  shows_then i (Flat wide start fixed) b s = (
    sym (same i b) ∙ (s.0 ∙ span_then z W vs stand W' vs' a i wide start b s.1),
    kept_span i wide start b s.1,
    lanes_then i wide start b s.1 s.2,
    narrow_then i wide b s.3,
    λ e. s.4 (sym (a.lengths i b) ∙ e),
  )
  shows_then i (Cons wide left right) b s = (
    born left s.0,
    born right s.1,
    sym (same i b) ∙ (s.2 ∙ (λ j. same left s.0 j ++ same right s.1 j)),
    s.3,
    s.4,
    some_then left s.0 s.5,
    some_then right s.1 s.6,
    long_then i b s.7,
    narrow_then i wide b s.8,
  )
  shows_then i (Sliced wide parent offset) b s = (
    born parent s.0,
    solid_then parent s.0 s.1,
    sym (same i b) ∙ (s.2 ∙ (λ j. take (sym (a.lengths i b) j) (drop offset (same parent s.0 j)))),
    subst (λ (n : ℕ). offset + n ≤ length (units_of z W' parent)) (sym (a.lengths i b)) (subst (λ (u : List ℕ). offset + length_word z W i ≤ length u) (same parent s.0) s.3),
    s.4,
    long_then i b s.5,
    narrow_then i wide b s.6,
  )
  shows_then i (Thin target) b s = (born target s.0, sym (same target s.0) ∙ (s.1 ∙ same i b), (s.2.0, s.2.1, fixed target s.2.0 s.2.1 s.0 s.2.2))

  pub knows_form_then : (i : ℕ) (f : Form) → KnowsForm z W vs i f → KnowsForm z W' vs' i f
  knows_form_then i f k = let shown = shows_then i f k.born k.shows in ⊎_elim
      (λ keep. record { born = born i k.born; now = k.now; decodes = ap form_of keep ∙ k.decodes; later = k.later; shows = shown })
      (λ (t : Turned z W W' vs' i). record {
        born = born i k.born;
        now = t.next;
        decodes = t.decodes;
        later = inr (⊎_elim (λ (e : f ≡ k.now). subst (λ (g : Form). IsLater g t.next) (sym e) (t.later k.now k.decodes)) (λ l. latest f k.now t.next l (t.later k.now k.decodes)) k.later);
        shows = shown;
      })
      (a.forms i k.born)

  pub knows_then : (v : View) → Knows z W vs v → Knows z W' vs' v
  knows_then v k = record {
    of_met = λ i h. born i (k.of_met i h);
    of_units = λ i us h. let p = k.of_units i us h in (born i p.0, sym (same i p.0) ∙ p.1);
    of_forms = λ i f h. knows_form_then i f (k.of_forms i f h);
    of_lengths = λ i n h. let p = k.of_lengths i n h in (born i p.0, a.lengths i p.0 ∙ p.1);
    of_frozen = λ c x h. let p = k.of_frozen c x h in (kept c p.0, a.contents c p.0 ∙ p.1);
    of_slots = λ s i h. let p = k.of_slots s i h in (p.0, used_then z W vs stand W' vs' a s i p.0 p.1);
  }

  free_before : (k : ℕ) → k < z.slots → slot z W' k ≡ 0 → slot z W k ≡ 0
  free_before k l e = ⊎_elim (λ same. sym same ∙ e) (λ free. free) (a.slots k l)

  used_still : (k i : ℕ) → IsUsed z W vs k i → IsUsed z W' vs' k i
  used_still k i u = record {
    born = born i u.born;
    fixed = (u.fixed.0, u.fixed.1, fixed i u.fixed.0 u.fixed.1 u.born u.fixed.2);
    earlier = λ j m r e'. u.earlier j m (subst (λ (w : List ℕ). rank w z.slots j < rank w z.slots k) (sym (same i u.born)) r) (free_before j m e');
  }

  pub slots_then : AreSlots z W vs → ((k i : ℕ) → k < z.slots → slot z W k ≡ 0 → slot z W' k ≡ i + 1 → IsUsed z W' vs' k i) → AreSlots z W' vs'
  slots_then h new k i l e = ⊎_elim (λ stays. used_still k i (h k i l (sym stays ∙ e))) (λ free. new k i l free e) (a.slots k l)

  -- no new slot has the units of a used one, and at most one is new
  pub different_then : AreSlots z W vs → AreDifferent z W vs
      → ((k i l j : ℕ) → k < z.slots → l < z.slots → slot z W k ≡ 0 → slot z W' k ≡ i + 1 → slot z W l ≡ j + 1 → units_of z W' i ≡ units_of z W j → ⊥)
      → ((k i l j : ℕ) → slot z W k ≡ 0 → slot z W' k ≡ i + 1 → slot z W l ≡ 0 → slot z W' l ≡ j + 1 → k < z.slots → l < z.slots → k ≡ l) → AreDifferent z W' vs'
  different_then s h new one k l i j p q e f g = ⊎_elim
      (λ a1. ⊎_elim
      (λ b1. let e' = sym a1 ∙ e in let f' = sym b1 ∙ f in h k l i j p q e' f' (same i (s k i p e').born ∙ (g ∙ sym (same j (s l j q f').born))))
      (λ b0. let e' = sym a1 ∙ e in absurd (new l j k i q p b0 f e' (sym g ∙ sym (same i (s k i p e').born))))
      (a.slots l q))
      (λ a0. ⊎_elim
      (λ b1. let f' = sym b1 ∙ f in absurd (new k i l j p q a0 e f' (g ∙ sym (same j (s l j q f').born))))
      (λ b0. one k i l j a0 e b0 f p q)
      (a.slots l q))
      (a.slots k p)

  pub recalls_then : (v : View) → Knows z W vs v → AreSlots z W vs → Recalls z W vs v → Recalls z W' vs' v
  recalls_then v k s h u i c = let r = h u i c in let p = k.of_slots r.0.0 i r.0.1 in (r.0, r.1 ∙ same i (s r.0.0 i p.0 p.1).born)
