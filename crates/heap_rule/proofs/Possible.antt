-- What the rule says of one live view alone. Each fact holds in the sound state that has the view, and speaks of the view only.
use Rattle.std.proofs.Common.{◌≡◌, ℕ, zero, suc, ◌+◌, ◌/◌, ◌<◌, ◌≤◌, ◌⊎◌, ⊎_elim, Bool, true, false, List, length, take, drop, get_or, subst, sym, ap, ◌∙◌, arith, Some}
use Rattle.std.proofs.lemmas.List.{get_or-drop, get_or-take, length-drop, length-take-le}
use Rattle.js_units.specs.Lanes.{lane_count}
use Rattle.js_header.specs.declared.form.Form.{Form}
use Rattle.js_header.specs.declared.form.Form.TheVariants.{Unborn, Flat, Cons, Sliced, Thin}
use Rattle.heap_rule.specs.declared.view.View.{View}
use Rattle.heap_rule.specs.declared.size.HeapSize.{HeapSize}
use Rattle.heap_rule.specs.Layout.{content, length_word, MAX, IsLawfulSize}
use Rattle.heap_rule.specs.Contents.{lane_in, span, units_of}
use Rattle.heap_rule.specs.Maps.{Has, HasKey}
use Rattle.heap_rule.specs.Forms.{IsLater}
use Rattle.heap_rule.specs.Views.{IsFrozen, HasLength, LeadsTo, shown_word}
use Rattle.std.proofs.Math.Logic.{∥∥₁_elim}
use Rattle.std.proofs.Props.{props}
use Rattle.heap_rule.specs.Sound.{Knows, IsPossible, StandsIn}
use Rattle.heap_rule.proofs.Birth.{shown_by}
use Rattle.heap_rule.proofs.Loads.{frozen_right, length_right}
use Rattle.heap_rule.proofs.Steps.{sizes_are}
use Rattle.heap_rule.proofs.UnitLemmas.{lane_same}
use Rattle.std.specs.FinMap.{get}

-- a word that is known to be frozen lies in the heap
frozen_in : (v : View) → StandsIn v → (c : ℕ) → IsFrozen v c → c < v.sizes.words
frozen_in v (z, agents, W, vs, j, s, at, live) c h = let b = (frozen_right z W vs s.standing v (s.knows j v at live) c h).below in let e = s.counted.words_end in
    subst (λ (y : HeapSize). c < y.words) (sym (sizes_are z agents W vs s j v at live)) (omega arith)

pub possible_frozen : (v : View) → IsPossible v → (c : ℕ) → IsFrozen v c → c < v.sizes.words
possible_frozen v p c h = ∥∥₁_elim p (Prim.hlevel props) (λ t. frozen_in v t c h)

-- the sizes are those of a heap
lawful_in : (v : View) → StandsIn v → IsLawfulSize v.sizes
lawful_in v (z, agents, W, vs, j, s, at, live) = subst IsLawfulSize (sym (sizes_are z agents W vs s j v at live)) s.lawful

pub possible_lawful : (v : View) → IsPossible v → IsLawfulSize v.sizes
possible_lawful v p = ∥∥₁_elim p (Prim.hlevel props) (λ t. lawful_in v t)

-- a length that is known is that of the units
length_in : (v : View) → StandsIn v → (i n : ℕ) (us : List ℕ) → Has v.units i us → Has v.lengths i n → n ≡ length us
length_in v (z, agents, W, vs, j, s, at, live) i n us h l = let k = s.knows j v at live in let u = k.of_units i us h in sym (k.of_lengths i n l).1 ∙ ((s.standing i u.0).length_is ∙ ap length u.1)

pub possible_length : (v : View) → IsPossible v → (i n : ℕ) (us : List ℕ) → Has v.units i us → Has v.lengths i n → n ≡ length us
possible_length v p i n us h l = ∥∥₁_elim p (Prim.hlevel props) (λ t. length_in v t i n us h l)

-- no string is longer than the greatest length
short_in : (v : View) → StandsIn v → (i : ℕ) (us : List ℕ) → Has v.units i us → length us ≤ MAX
short_in v (z, agents, W, vs, j, s, at, live) i us h = let u = (s.knows j v at live).of_units i us h in let st = s.standing i u.0 in
    let n : length_word z W i ≡ length us = st.length_is ∙ ap length u.1 in
    subst (λ (m : ℕ). m ≤ MAX) n st.short

pub possible_short : (v : View) → IsPossible v → (i : ℕ) (us : List ℕ) → Has v.units i us → length us ≤ MAX
possible_short v p i us h = ∥∥₁_elim p (Prim.hlevel props) (λ t. short_in v t i us h)

-- neither is any length by which its units are known to be there
long_in : (v : View) → StandsIn v → (i n : ℕ) (f : Form) → Has v.forms i f → HasLength v i n → n ≤ MAX
long_in v (z, agents, W, vs, j, s, at, live) i n f h l = let k = s.knows j v at live in let b = (k.of_forms i f h).born in
    let less = length_right z W vs s.standing v k i n b l in let short = (s.standing i b).short in omega arith

pub possible_long : (v : View) → IsPossible v → (i n : ℕ) (f : Form) → Has v.forms i f → HasLength v i n → n ≤ MAX
possible_long v p i n f h l = ∥∥₁_elim p (Prim.hlevel props) (λ t. long_in v t i n f h l)

-- a lane of a span is the lane of its words
pub span_lane : (f : ℕ → ℕ) (wide : Bool) (start o n k : ℕ) → k < n → get_or (span f wide start o n) k 0 ≡ lane_in f wide start (o + k)
span_lane f wide start o zero k l = absurd (omega arith)
span_lane f wide start o (suc n) zero l = let e : o ≡ o + 0 = omega arith in ap (λ (x : ℕ). lane_in f wide start x) e
span_lane f wide start o (suc n) (suc k) l = let e : suc o + k ≡ o + suc k = omega arith in span_lane f wide start (suc o) n k (omega arith) ∙ ap (λ (x : ℕ). lane_in f wide start x) e

-- the units of a string are those of the one to which the view leads, from the offset on
module _ (z : HeapSize) (W : List ℕ) (vs : List View) (v : View) (k : Knows z W vs v) where
  same_units : (p i : ℕ) → (p ≡ i) ⊎ Has v.forms p (Thin i) → units_of z W p ≡ units_of z W i
  same_units p i way = ⊎_elim (λ (e : p ≡ i). ap (units_of z W) e) (λ (h : Has v.forms p (Thin i)). sym (k.of_forms p (Thin i) h).shows.1) way

  led_unit : (s i offset o : ℕ) (us : List ℕ) → units_of z W s ≡ us → LeadsTo v s i offset → o < length us → get_or us o 0 ≡ get_or (units_of z W i) (offset + o) 0
  led_unit s i offset o us is way l = ⊎_elim
      (λ (t : ((s ≡ i) ⊎ Has v.forms s (Thin i)) × (offset ≡ 0)). let none = t.1 in let plain : o ≡ offset + o = omega arith in
      (λ d. get_or ((sym is ∙ same_units s i t.0) d) (plain d) 0))
      (λ (t : (wide : Bool) × (parent : ℕ) × Has v.forms s (Sliced wide parent offset) × ((parent ≡ i) ⊎ Has v.forms parent (Thin i))). let shown = (k.of_forms s (Sliced t.0 t.1 offset) t.2).shows in
      let whole : us ≡ take (length_word z W s) (drop offset (units_of z W i)) = sym is ∙ (shown.2 ∙ ap (λ (xs : List ℕ). take (length_word z W s) (drop offset xs)) (same_units t.1 i t.3)) in
      let room : offset + length_word z W s ≤ length (units_of z W i) = subst (λ (xs : List ℕ). offset + length_word z W s ≤ length xs) (same_units t.1 i t.3) shown.3 in
      let rest = length-drop offset (units_of z W i) in let count : length us ≡ length_word z W s = ap length whole ∙ length-take-le (length_word z W s) (drop offset (units_of z W i)) (omega arith) in
      ap (λ (xs : List ℕ). get_or xs o 0) whole ∙ (get_or-take (length_word z W s) (drop offset (units_of z W i)) o 0 (omega arith) ∙ get_or-drop offset (units_of z W i) o 0))
      way

  led_within : (s i offset : ℕ) (us : List ℕ) → units_of z W s ≡ us → LeadsTo v s i offset → offset + length us ≤ length (units_of z W i)
  led_within s i offset us is way = ⊎_elim
      (λ (t : ((s ≡ i) ⊎ Has v.forms s (Thin i)) × (offset ≡ 0)). let none = t.1 in let same : length us ≡ length (units_of z W i) = ap length (sym is ∙ same_units s i t.0) in omega arith)
      (λ (t : (wide : Bool) × (parent : ℕ) × Has v.forms s (Sliced wide parent offset) × ((parent ≡ i) ⊎ Has v.forms parent (Thin i))). let shown = (k.of_forms s (Sliced t.0 t.1 offset) t.2).shows in
      let whole : us ≡ take (length_word z W s) (drop offset (units_of z W i)) = sym is ∙ (shown.2 ∙ ap (λ (xs : List ℕ). take (length_word z W s) (drop offset xs)) (same_units t.1 i t.3)) in
      let room : offset + length_word z W s ≤ length (units_of z W i) = subst (λ (xs : List ℕ). offset + length_word z W s ≤ length xs) (same_units t.1 i t.3) shown.3 in
      let rest = length-drop offset (units_of z W i) in
      let count : length us ≡ length_word z W s = ap length whole ∙ length-take-le (length_word z W s) (drop offset (units_of z W i))
      (omega arith) in omega arith)
      way

-- what the view has of a word under the Flat to which it leads shows the unit of the string
unit_in : (v : View) → StandsIn v → (s i offset : ℕ) (wide : Bool) (start : ℕ) (fixed : Bool) (us : List ℕ) (o : ℕ) → LeadsTo v s i offset →
    Has v.forms i (Flat wide start fixed) → Has v.units s us → o < length us
    → HasKey v.own_words (start + (offset + o) / lane_count wide) ⊎ HasKey v.frozen (start + (offset + o) / lane_count wide) → lane_in (shown_word v) wide start (offset + o) ≡ get_or us o 0
unit_in v (z, agents, W, vs, j, s, at, live) q i offset wide start fixed us o way f h l has = let k = s.knows j v at live in
    let u = k.of_units q us h in let form = k.of_forms i (Flat wide start fixed) f in
    let c : ℕ = start + (offset + o) / lane_count wide in
    let word : shown_word v c ≡ content z W c = shown_by (get v.own_words c) (get v.frozen c) (content z W c) (λ x e. ((s.own_words j v at live).each c x e).1) (λ x e. (k.of_frozen c x e).1) has in
    let n : length_word z W i ≡ length (units_of z W i) = (s.standing i form.born).length_is in let room = led_within z W vs v k q i offset us u.1 way in
    let plain : 0 + (offset + o) ≡ offset + o = omega arith in
    lane_same (shown_word v) (content z W) wide start (offset + o) word
    ∙ sym (led_unit z W vs v k q i offset o us u.1 way l ∙ (ap (λ (xs : List ℕ). get_or xs (offset + o) 0) form.shows.0
    ∙ (span_lane (content z W) wide start 0 (length_word z W i) (offset + o) (omega arith) ∙ ap (λ (x : ℕ). lane_in (content z W) wide start x) plain)))

pub possible_unit : (v : View) → IsPossible v → (s i offset : ℕ) (wide : Bool) (start : ℕ) (fixed : Bool) (us : List ℕ) (o : ℕ) → LeadsTo v
    s i offset → Has v.forms i (Flat wide start fixed) → Has v.units s us → o < length us
    → HasKey v.own_words (start + (offset + o) / lane_count wide) ⊎ HasKey v.frozen (start + (offset + o) / lane_count wide) → lane_in (shown_word v) wide start (offset + o) ≡ get_or us o 0
possible_unit v p q i offset wide start fixed us o way f h l has = ∥∥₁_elim p (Prim.hlevel props) (λ t. unit_in v t q i offset wide start fixed us o way f h l has)

-- what the view has of a word under a Flat shows the unit of its id
lane_there : (v : View) → StandsIn v → (i : ℕ) (wide : Bool) (start : ℕ) (fixed : Bool) (us : List ℕ) (o : ℕ) → Has v.forms i (Flat wide start fixed) → Has v.units i us → o < length us
    → HasKey v.own_words (start + o / lane_count wide) ⊎ HasKey v.frozen (start + o / lane_count wide) → lane_in (shown_word v) wide start o ≡ get_or us o 0
lane_there v (z, agents, W, vs, j, s, at, live) i wide start fixed us o f h l has = let k = s.knows j v at live in let u = k.of_units i us h in let c : ℕ = start + o / lane_count wide in
    let word : shown_word v c ≡ content z W c = shown_by (get v.own_words c) (get v.frozen c) (content z W c) (λ x e. ((s.own_words j v at live).each c x e).1) (λ x e. (k.of_frozen c x e).1) has in
    let n : length_word z W i ≡ length us = (s.standing i u.0).length_is ∙ ap length u.1 in
    let spans : us ≡ span (content z W) wide start 0 (length us) = sym u.1 ∙ ((k.of_forms i (Flat wide start fixed) f).shows.0 ∙ ap (λ (m : ℕ). span (content z W) wide start 0 m) n) in
    let plain : 0 + o ≡ o = omega arith in
    lane_same (shown_word v) (content z W) wide start o word ∙ sym (ap (λ (xs : List ℕ). get_or xs o 0) spans ∙
    (span_lane (content z W) wide start 0 (length us) o l ∙ ap (λ (x : ℕ). lane_in (content z W) wide start x) plain))

pub possible_lane : (v : View) → IsPossible v → (i : ℕ) (wide : Bool) (start : ℕ) (fixed : Bool) (us : List ℕ) (o : ℕ) → Has v.forms i (Flat wide start fixed) → Has v.units i us → o < length us
    → HasKey v.own_words (start + o / lane_count wide) ⊎ HasKey v.frozen (start + o / lane_count wide) → lane_in (shown_word v) wide start o ≡ get_or us o 0
possible_lane v p i wide start fixed us o f h l has = ∥∥₁_elim p (Prim.hlevel props) (λ t. lane_there v t i wide start fixed us o f h l has)

none_later : (f : Form) (wide : Bool) (start : ℕ) → IsLater f (Flat wide start true) → ⊥
none_later Unborn wide start l = absurd (cc)
none_later (Flat w s true) wide start l = absurd (cc)
none_later (Flat w s false) wide start l = absurd (cc)
none_later (Cons w a b) wide start l = absurd (cc)
none_later (Sliced w a b) wide start l = absurd (cc)
none_later (Thin t) wide start l = absurd (cc)

abbrev is_fixed : Form → Bool
is_fixed (Flat wide start fixed) = fixed
is_fixed Unborn = false
is_fixed (Cons wide left right) = false
is_fixed (Sliced wide parent offset) = false
is_fixed (Thin target) = false

fixed_is : (f : Form) → is_fixed f ≡ true → (wide : Bool) × (start : ℕ) × (f ≡ Flat wide start true)
fixed_is (Flat wide start fixed) e = (wide, start, ap (Flat wide start) e)
fixed_is Unborn e = absurd (cc)
fixed_is (Cons wide left right) e = absurd (cc)
fixed_is (Sliced wide parent offset) e = absurd (cc)
fixed_is (Thin target) e = absurd (cc)

slot_in : (v : View) → StandsIn v → (k t : ℕ) (f : Form) → Has v.slots k t → Has v.forms t f → is_fixed f ≡ true
slot_in v (z, agents, W, vs, j, s, at, live) k t f h g = let know = s.knows j v at live in let p = know.of_slots k t h in let u = (s.slots k t p.0 p.1).fixed in let o = know.of_forms t f g in
    let e : Some o.now ≡ Some (Flat u.0 u.1 true) = sym o.decodes ∙ u.2 in let is : o.now ≡ Flat u.0 u.1 true = cc in
    ap is_fixed (⊎_elim (λ same. same ∙ is) (λ later. absurd (none_later f u.0 u.1 (subst (λ (y : Form). IsLater f y) is later))) o.later)

-- the string in a slot is a fixed Flat, so what the view has of its form never changes
pub possible_slot : (v : View) → IsPossible v → (k t : ℕ) (f : Form) → Has v.slots k t → Has v.forms t f → (wide : Bool) × (start : ℕ) × (f ≡ Flat wide start true)
possible_slot v p k t f h g = fixed_is f (∥∥₁_elim p (Prim.hlevel props) (λ q. slot_in v q k t f h g))

-- a slot that the view has lies in the heap
inside_in : (v : View) → StandsIn v → (k i : ℕ) → Has v.slots k i → k < v.sizes.slots
inside_in v (z, agents, W, vs, j, s, at, live) k i h = subst (λ (y : HeapSize). k < y.slots) (sym (sizes_are z agents W vs s j v at live)) ((s.knows j v at live).of_slots k i h).0

pub possible_inside : (v : View) → IsPossible v → (k i : ℕ) → Has v.slots k i → k < v.sizes.slots
possible_inside v p k i h = ∥∥₁_elim p (Prim.hlevel props) (λ t. inside_in v t k i h)
