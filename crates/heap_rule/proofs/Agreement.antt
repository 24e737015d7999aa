-- What a step may do to the words that born ids show: turn a header into another with the same units, and nothing else.
use Rattle.std.proofs.Common.{◌≡◌, ◌≢◌, ℕ, ◌+◌, ◌<◌, ◌≤◌, ◌⊎◌, ⊎_elim, Bool, true, false, cond, List, take, drop, sym, refl, ap, ◌∙◌, subst, arith, Option, Some, None}
use Rattle.std.specs.Prelude.{◌&&◌, nat_lt}
use Rattle.js_units.specs.Lanes.{words_over}
use Rattle.js_header.specs.Form.{form_of}
use Rattle.js_header.specs.declared.form.Form.{Form}
use Rattle.js_header.specs.declared.form.Form.TheVariants.{Unborn, Flat, Cons, Sliced, Thin}
use Rattle.heap_rule.specs.declared.view.View.{View}
use Rattle.heap_rule.specs.declared.size.HeapSize.{HeapSize}
use Rattle.heap_rule.specs.Layout.{next_id, next_word, slot, form, length_word, content, IsBorn}
use Rattle.heap_rule.specs.Contents.{blank, whole, joins, shape, shape_by, units_by, flat, flat_by, solid, solid_by, units_of, units_in, span}
use Rattle.heap_rule.specs.Forms.{IsSolid, IsSolidForm, IsLater}
use Rattle.heap_rule.specs.Sound.{IsFree, IsKept, IsStanding, StandsAs}
use Rattle.heap_rule.proofs.UnitLemmas.{JoinsBelow, EachJoined, units_step, units_unique, flat_same}

-- The new header says the old units at once, and the old one was no fixed Flat
pub record Turned (z : HeapSize) (W : List ℕ) (W' : List ℕ) (vs' : List View) (i : ℕ) : Type 0 where
  pub born : form z W' i ≢ 0
  pub whole_now : shape z W' i ≡ whole (units_of z W i)
  pub solid_now : solid z W' i ≡ units_of z W i
  pub moving : (wide : Bool) (start : ℕ) → form_of (form z W i) ≡ Some (Flat wide start true) → ⊥
  pub next : Form
  pub decodes : form_of (form z W' i) ≡ Some next
  pub solid_form : IsSolid next
  pub later : (f : Form) → form_of (form z W i) ≡ Some f → IsLater f next
  pub stands : IsStanding z W' vs' i

pub record Agrees (z : HeapSize) (W : List ℕ) (vs : List View) (W' : List ℕ) (vs' : List View) : Type 0 where
  pub ids : next_id W ≤ next_id W'
  pub words : next_word W ≤ next_word W'
  pub forms : (i : ℕ) → IsBorn z W i → (form z W' i ≡ form z W i) ⊎ Turned z W W' vs' i
  pub lengths : (i : ℕ) → IsBorn z W i → length_word z W' i ≡ length_word z W i
  pub contents : (c : ℕ) → IsKept W vs c → content z W' c ≡ content z W c
  pub slots : (k : ℕ) → k < z.slots → (slot z W' k ≡ slot z W k) ⊎ (slot z W k ≡ 0)
  pub free : (c : ℕ) → IsKept W vs c → IsFree vs' c

low_if : (i l r : ℕ) (a b : Bool) → (a ≡ true → l < i) → (b ≡ true → r < i) → JoinsBelow i (cond (a && b) (joins l r) blank)
low_if i l r true true h k = (h refl, k refl)
low_if i l r true false h k = tt
low_if i l r false b h k = tt

joined_if : (P : ℕ → Type 0) (l r : ℕ) (b : Bool) → P l → P r → EachJoined P (cond b (joins l r) blank)
joined_if P l r true p q = (p, q)
joined_if P l r false p q = tt

low_by : (z : HeapSize) (W : List ℕ) (i : ℕ) (o : Option Form) → JoinsBelow i (shape_by z W i o)
low_by z W i None = tt
low_by z W i (Some Unborn) = tt
low_by z W i (Some (Flat wide start fixed)) = tt
low_by z W i (Some (Thin target)) = tt
low_by z W i (Some (Sliced wide parent offset)) = tt
low_by z W i (Some (Cons wide left right)) = low_if i left right (nat_lt left i) (nat_lt right i) (λ e. grind (arith, e)) (λ e. grind (arith, e))

pub low : (z : HeapSize) (W : List ℕ) (i : ℕ) → JoinsBelow i (shape z W i)
unfolding shape
low z W i = low_by z W i (form_of (form z W i))

module _ (z : HeapSize) (W : List ℕ) (vs : List View) (stand : (i : ℕ) → IsBorn z W i → IsStanding z W vs i) where
  closed_by : (i : ℕ) (f : Form) → StandsAs z W vs i f → EachJoined (IsBorn z W) (shape_by z W i (Some f))
  closed_by i Unborn s = absurd s
  closed_by i (Flat wide start fixed) s = tt
  closed_by i (Thin target) s = tt
  closed_by i (Sliced wide parent offset) s = tt
  closed_by i (Cons wide left right) s = joined_if (IsBorn z W) left right (nat_lt left i && nat_lt right i) s.2 s.3

  pub closed : (i : ℕ) → IsBorn z W i → EachJoined (IsBorn z W) (shape z W i)
  unfolding shape
  closed i b = let s = stand i b in subst (λ (o : Option Form). EachJoined (IsBorn z W) (shape_by z W i o)) (sym s.decodes) (closed_by i s.now s.stands)

  module _ (W' : List ℕ) (vs' : List View) (a : Agrees z W vs W' vs') where
    pub born_then : (i : ℕ) → IsBorn z W i → IsBorn z W' i
    born_then i b = (b.0, ⊎_elim (λ keep e. b.1 (sym keep ∙ e)) (λ (t : Turned z W W' vs' i). t.born) (a.forms i b))

    pub kept_then : (c : ℕ) → IsKept W vs c → IsKept W' vs' c
    kept_then c k = record { below = (let l = k.below in let m = a.words in omega arith); free = a.free c k }

    pub solid_form_then : (i : ℕ) → IsBorn z W i → IsSolidForm (form_of (form z W i)) → IsSolidForm (form_of (form z W' i))
    solid_form_then i b h = ⊎_elim (λ keep. subst IsSolidForm (sym (ap form_of keep)) h) (λ (t : Turned z W W' vs' i). subst IsSolidForm (sym t.decodes) t.solid_form) (a.forms i b)

    pub span_then : (i : ℕ) (wide : Bool) (start : ℕ) → IsBorn z W i → ((c : ℕ) → start ≤ c → c < start + words_over wide (length_word z W i) → IsKept W vs c)
        → span (content z W) wide start 0 (length_word z W i) ≡ span (content z W') wide start 0 (length_word z W' i)
    span_then i wide start b kept = flat_same (content z W) (content z W') wide start (length_word z W i) (λ c lo hi. sym (a.contents c (kept c lo hi)))
        ∙ ap (λ (n : ℕ). span (content z W') wide start 0 n) (sym (a.lengths i b))

    -- a fixed Flat stays
    pub fixed_stays : (i : ℕ) (wide : Bool) (start : ℕ) → IsBorn z W i → form_of (form z W i) ≡ Some (Flat wide start true) → form z W' i ≡ form z W i
    fixed_stays i wide start b e = ⊎_elim (λ h. h) (λ (t : Turned z W W' vs' i). absurd (t.moving wide start e)) (a.forms i b)

    flat_at : (i : ℕ) (wide : Bool) (start : ℕ) (f : Form) → IsBorn z W i → form_of (form z W i) ≡ Some f → f ≡ Flat wide start true →
        StandsAs z W vs i f → form z W' i ≡ form z W i → flat z W i ≡ flat z W' i
    flat_at i wide start (Flat w s false) b e is st keep = absurd (cc)
    flat_at i wide start (Flat w s true) b e is st keep = ap (flat_by z W i) e ∙ (span_then i w s b st.0 ∙ ap (flat_by z W' i) (sym (ap form_of keep ∙ e)))
    flat_at i wide start Unborn b e is st keep = absurd (cc)
    flat_at i wide start (Cons w l r) b e is st keep = absurd (cc)
    flat_at i wide start (Sliced w p o) b e is st keep = absurd (cc)
    flat_at i wide start (Thin t) b e is st keep = absurd (cc)

    flat_stays : (i : ℕ) (wide : Bool) (start : ℕ) → IsBorn z W i → form_of (form z W i) ≡ Some (Flat wide start true) → flat z W i ≡ flat z W' i
    flat_stays i wide start b e = let s = stand i b in let d : Some s.now ≡ Some (Flat wide start true) = sym s.decodes ∙ e in
        flat_at i wide start s.now b s.decodes (cc) s.stands (fixed_stays i wide start b e)

    -- what a Flat or a Thin shows at once is its units
    pub solid_units_by : (i : ℕ) (f : Form) → IsSolid f → form_of (form z W i) ≡ Some f → solid z W i ≡ units_of z W i
    unfolding shape
    solid_units_by i (Flat wide start fixed) h e = ap (solid_by z W i) e ∙ sym (units_step (shape z W) (low z W) i ∙ ap (λ (o : Option Form). units_by (units_in (shape z W)) (shape_by z W i o)) e)
    solid_units_by i (Thin target) h e = ap (solid_by z W i) e ∙ sym (units_step (shape z W) (low z W) i ∙ ap (λ (o : Option Form). units_by (units_in (shape z W)) (shape_by z W i o)) e)
    solid_units_by i Unborn h e = absurd h
    solid_units_by i (Cons wide left right) h e = absurd h
    solid_units_by i (Sliced wide parent offset) h e = absurd h

    solid_stays_by : (i : ℕ) (f : Form) → IsBorn z W i → IsSolid f → form_of (form z W i) ≡ Some f → StandsAs z W vs i f → form z W' i ≡ form z W i → solid z W i ≡ solid z W' i
    solid_stays_by i (Flat wide start fixed) b h e st keep = ap (solid_by z W i) e ∙ (span_then i wide start b st.0 ∙ ap (solid_by z W' i) (sym (ap form_of keep ∙ e)))
    solid_stays_by i (Thin target) b h e st keep = ap (solid_by z W i) e ∙ (flat_stays target st.1.0 st.1.1 st.0 st.1.2 ∙ ap (solid_by z W' i) (sym (ap form_of keep ∙ e)))
    solid_stays_by i Unborn b h e st keep = absurd h
    solid_stays_by i (Cons wide left right) b h e st keep = absurd h
    solid_stays_by i (Sliced wide parent offset) b h e st keep = absurd h

    pub solid_stays : (i : ℕ) → IsBorn z W i → IsSolidForm (form_of (form z W i)) → solid z W i ≡ solid z W' i
    solid_stays i b h = let s = stand i b in let solid_now : IsSolid s.now = subst IsSolidForm s.decodes h in ⊎_elim
        (λ keep. solid_stays_by i s.now b solid_now s.decodes s.stands keep)
        (λ (t : Turned z W W' vs' i). solid_units_by i s.now solid_now s.decodes ∙ sym t.solid_now)
        (a.forms i b)

    shapes_by : (i : ℕ) (f : Form) → IsBorn z W i → StandsAs z W vs i f → shape_by z W i (Some f) ≡ shape_by z W' i (Some f)
    shapes_by i Unborn b s = refl
    shapes_by i (Flat wide start fixed) b s = ap whole (span_then i wide start b s.0)
    shapes_by i (Thin target) b s = ap whole (flat_stays target s.1.0 s.1.1 s.0 s.1.2)
    shapes_by i (Sliced wide parent offset) b s = λ j. whole (take (sym (a.lengths i b) j) (drop offset (solid_stays parent s.1 s.2 j)))
    shapes_by i (Cons wide left right) b s = refl

    shape_stays : (i : ℕ) → IsBorn z W i → form z W' i ≡ form z W i → shape z W i ≡ shape z W' i
    unfolding shape
    shape_stays i b keep = let s = stand i b in ap (shape_by z W i) s.decodes ∙ (shapes_by i s.now b s.stands ∙ ap (shape_by z W' i) (sym (ap form_of keep ∙ s.decodes)))

    solves : (i : ℕ) → IsBorn z W i → units_of z W i ≡ units_by (units_of z W) (shape z W' i)
    solves i b = ⊎_elim
        (λ keep. units_step (shape z W) (low z W) i ∙ ap (units_by (units_of z W)) (shape_stays i b keep))
        (λ (t : Turned z W W' vs' i). sym (ap (units_by (units_of z W)) t.whole_now)) (a.forms i b)

    closed_then : (i : ℕ) → IsBorn z W i → EachJoined (IsBorn z W) (shape z W' i)
    closed_then i b = ⊎_elim (λ keep. subst (EachJoined (IsBorn z W)) (shape_stays i b keep) (closed i b))
        (λ (t : Turned z W W' vs' i). subst (EachJoined (IsBorn z W)) (sym t.whole_now) tt) (a.forms i b)

    pub units_stay : (i : ℕ) → IsBorn z W i → units_of z W' i ≡ units_of z W i
    units_stay = units_unique (shape z W') (units_of z W) (IsBorn z W) (low z W') closed_then solves

    pub units_then : (i : ℕ) → IsBorn z W i → units_of z W i ≡ units_of z W' i
    units_then i b = sym (units_stay i b)

    -- a used slot keeps its word
    pub used_then : (k i : ℕ) → k < z.slots → slot z W k ≡ i + 1 → slot z W' k ≡ i + 1
    used_then k i l e = ⊎_elim (λ same. same ∙ e) (λ free. absurd (omega arith)) (a.slots k l)
