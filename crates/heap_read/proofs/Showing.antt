-- What a window shows.
use Rattle.std.proofs.Common.{◌≡◌, ℕ, ◌+◌, ◌/◌, ◌%◌, ◌^◌, ◌<◌, ◌≤◌, ◌⊎◌, inl, inr, ⊎_elim, Bool, true, false, List, length, drop, get_or, sym, refl, ap, ◌∙◌, subst, arith, Option, Some, None}
use Rattle.std.proofs.lemmas.List.{get_or-drop, get_or-take, length-drop, length-take-le}
use Rattle.std.specs.FinMap.{FinMap}
use Rattle.std.specs.Ordering.{nat_cmp}
use Rattle.js_units.specs.Lanes.{lane_count, lane_of, words_over}
use Rattle.heap_rule.specs.declared.view.View.{View}
use Rattle.heap_rule.specs.Contents.{lane_in}
use Rattle.heap_rule.specs.Maps.{Has, HasKey}
use Rattle.heap_rule.specs.Views.{LeadsTo, HasLength, IsFrozen, shown_word}
use Rattle.heap_rule.specs.Loads.{added_loads, loaded_form, with_form}
use Rattle.heap_rule.specs.Learning.{learned_all}
use Rattle.heap_rule.specs.Births.{part}
use Rattle.heap_rule.proofs.MapLemmas.{insert_same}
use Rattle.js_header.specs.Form.{form_of}
use Rattle.js_header.specs.declared.form.Form.{Form}
use Rattle.js_header.specs.declared.form.Form.TheVariants.{Flat, Sliced, Thin}
use Rattle.heap_rule.specs.Sound.{IsPossible}
use Rattle.heap_rule.proofs.Possible.{possible_frozen, possible_unit, possible_lawful}
use Rattle.heap_table.specs.Known.{KeepsKnown}
use Rattle.heap_read.specs.declared.string.Window.{Window}
use Rattle.heap_read.specs.Reads.{HoldsForms}
use Rattle.heap_read.specs.Windows.{IsFrozenWindow, IsWindow, StandsFor}

pub more_words : (wide : Bool) (n m : ℕ) → n ≤ m → words_over wide n ≤ words_over wide m
more_words true n m l = omega arith
more_words false n m l = omega arith

lanes_from : (wide : Bool) (start o c : ℕ) → start + o / lane_count wide ≤ c → start ≤ c
lanes_from true start o c l = omega arith
lanes_from false start o c l = omega arith

-- its words are known to be frozen
pub window_frozen : (v : View) (w : Window) (us : List ℕ) → IsWindow v w us → IsFrozenWindow v w
window_frozen v w us k c lo hi = let p = k.place in let l = k.within in let m = more_words w.wide (w.offset + w.len) (k.before + length k.whole) (omega arith) in
    inr (k.id, w.wide, w.start, k.fixed, k.before + length k.whole, k.form, k.length_known, lanes_from w.wide w.start w.offset c lo, omega arith)

-- what leads stays with the forms, and what has a length
module _ (v u : View) (holds : HoldsForms v u) where
  pub stands_for_kept : (p i : ℕ) → StandsFor v p i → StandsFor u p i
  stands_for_kept p i way = ⊎_elim (λ (e : p ≡ i). inl e) (λ (h : Has v.forms p (Thin i)). inr (holds p (Thin i) h)) way

  pub leads_kept : (s i o : ℕ) → LeadsTo v s i o → LeadsTo u s i o
  leads_kept s i o way = ⊎_elim
      (λ (t : StandsFor v s i × (o ≡ 0)). inl (stands_for_kept s i t.0, t.1))
      (λ (t : (wide : Bool) × (parent : ℕ) × Has v.forms s (Sliced wide parent o) × StandsFor v parent i). inr (t.0, t.1, holds s (Sliced t.0 t.1 o) t.2, stands_for_kept t.1 i t.3))
      way

  pub length_kept : KeepsKnown v u → (i n : ℕ) → HasLength v i n → HasLength u i n
  length_kept k i n way = ⊎_elim
      (λ (h : Has v.lengths i n). inl (k.lengths i n h))
      (λ t. inr (t.0, t.1, t.2, t.3, t.4, holds t.0 (Sliced t.1 t.2 t.3) t.5, k.lengths t.0 t.4 t.6, t.7, stands_for_kept t.2 i t.8))
      way

  pub window_kept : (w : Window) (us : List ℕ) → KeepsKnown v u → IsWindow v w us → IsWindow u w us
  window_kept w us k h = record {
    of = h.of;
    whole = h.whole;
    known = k.units h.of h.whole h.known;
    id = h.id;
    before = h.before;
    leads = leads_kept h.of h.id h.before h.leads;
    fixed = h.fixed;
    form = holds h.id (Flat w.wide w.start h.fixed) h.form;
    length_known = length_kept k h.id (h.before + length h.whole) h.length_known;
    from = h.from;
    place = h.place;
    within = h.within;
    shows = h.shows;
  }

-- forms that are the same are held
pub forms_held : (v u : View) → u.forms ≡ v.forms → HoldsForms v u
forms_held v u e i f h = subst (λ (m : FinMap nat_cmp Form). Has m i f) (sym e) h

pub window_length : (v : View) (w : Window) (us : List ℕ) → IsWindow v w us → length us ≡ w.len
window_length v w us h = let l = h.within in let d = length-drop h.from h.whole in ap length h.shows ∙ length-take-le w.len (drop h.from h.whole) (omega arith)

pub part_unit : (o n i : ℕ) (us : List ℕ) → i < n → get_or (part o n us) i 0 ≡ get_or us (o + i) 0
part_unit o n i us l = get_or-take n (drop o us) i 0 l ∙ get_or-drop o us i 0

-- a lane of a word that the view has shows its unit
pub window_unit : (v : View) (w : Window) (us : List ℕ) (i : ℕ) → IsPossible v → IsWindow v w us → i < w.len
    → HasKey v.own_words (w.start + (w.offset + i) / lane_count w.wide) ⊎ HasKey v.frozen (w.start + (w.offset + i) / lane_count w.wide) →
    lane_in (shown_word v) w.wide w.start (w.offset + i) ≡ get_or us i 0
window_unit v w us i p h l has = let m = h.within in let q = h.place in let e : w.offset + i ≡ h.before + (h.from + i) = omega arith in
    let has' = subst (λ (o : ℕ). HasKey v.own_words (w.start + o / lane_count w.wide) ⊎ HasKey v.frozen (w.start + o / lane_count w.wide)) e has in
    ap (λ (o : ℕ). lane_in (shown_word v) w.wide w.start o) e
    ∙ (possible_unit v p h.of h.id h.before w.wide w.start h.fixed h.whole (h.from + i) h.leads h.form h.known (omega arith) has'
    ∙ (sym (part_unit h.from w.len i h.whole l) ∙ ap (λ (xs : List ℕ). get_or xs i 0) (sym h.shows)))

lanes_in_front : (wide : Bool) (start o i : ℕ) → start + o / lane_count wide ≤ start + (o + i) / lane_count wide
lanes_in_front true start o i = omega arith
lanes_in_front false start o i = omega arith

in_span : (wide : Bool) (start o n : ℕ) → o < n → start + o / lane_count wide < start + words_over wide n
in_span true start o n l = omega arith
in_span false start o n l = omega arith

place_by : (wide : Bool) (start o : ℕ) → start + o / lane_count wide < 2 ^ 29 → o < 2 ^ 32
place_by true start o l = omega arith
place_by false start o l = omega arith

-- the word of a unit lies in the heap, and its lane is a number of 32 bits
pub place_frozen : (v : View) (w : Window) (i : ℕ) → IsFrozenWindow v w → i < w.len → IsFrozen v (w.start + (w.offset + i) / lane_count w.wide)
place_frozen v w i h l = h (w.start + (w.offset + i) / lane_count w.wide) (lanes_in_front w.wide w.start w.offset i) (in_span w.wide w.start (w.offset + i) (w.offset + w.len) (omega arith))

pub word_small : (v : View) (w : Window) (i : ℕ) → IsPossible v → IsFrozenWindow v w → i < w.len → w.start + (w.offset + i) / lane_count w.wide < 2 ^ 29
word_small v w i p h l = let a = possible_frozen v p (w.start + (w.offset + i) / lane_count w.wide) (place_frozen v w i h l) in let b = (possible_lawful v p).3 in omega arith

pub place_small : (v : View) (w : Window) (i : ℕ) → IsPossible v → IsFrozenWindow v w → i < w.len → w.offset + i < 2 ^ 32
place_small v w i p h l = place_by w.wide w.start (w.offset + i) (word_small v w i p h l)

-- the form that was loaded is the one that the view has
form_by : (v : View) (i n : ℕ) (o : Option Form) (f : Form) → o ≡ Some f → Has (learned_all (record (with_form v i o) { form_loads = n })).forms i f
form_by v i n None f e = absurd (cc)
form_by v i n (Some g) f e = insert_same v.forms i g ∙ e

pub form_there : (v w : View) (i x : ℕ) (f : Form) → form_of x ≡ Some f → w ≡ learned_all (loaded_form v i x) → Has w.forms i f
form_there v w i x f spelt e = subst (λ (u : View). Has u.forms i f) (sym e) (form_by v i (added_loads v.form_loads 1) (form_of x) f spelt)

-- a lane with the number of lanes written out
pub lane_here : (f : ℕ → ℕ) (wide b : Bool) (start o n word r : ℕ) → wide ≡ b → n ≡ lane_count wide → word ≡ f (start + o / n) → r ≡ lane_of b word (o % n) → r ≡ lane_in f wide start o
unfolding lane_in
lane_here f wide b start o n word r e m h g = g ∙ (λ i. lane_of (sym e i) ((h ∙ ap (λ (k : ℕ). f (start + o / k)) m) i) (o % m i))

pub four_lanes : (wide : Bool) → wide ≡ true → 4 ≡ lane_count wide
four_lanes true e = refl
four_lanes false e = absurd (cc)

pub eight_lanes : (wide : Bool) → wide ≡ false → 8 ≡ lane_count wide
eight_lanes true e = absurd (cc)
eight_lanes false e = refl
