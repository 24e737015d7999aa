-- No unit of a window over one-byte lanes is over 255.
use Rattle.std.proofs.Common.{◌≡◌, ℕ, ◌<◌, ◌⊎◌, ⊎_elim, Bool, false, List, take, drop, subst, sym, ap, ◌∙◌, arith}
use Rattle.std.proofs.lemmas.List.Elements.{All-drop, All-take}
use Rattle.std.proofs.Math.Logic.{∥∥₁_elim}
use Rattle.std.proofs.Props.{props}
use Rattle.js_units.specs.Lanes.{is_wide}
use Rattle.js_units.proofs.PackedWords.{none_wide}
use Rattle.js_header.specs.declared.form.Form.TheVariants.{Flat, Sliced, Thin}
use Rattle.heap_rule.specs.declared.size.HeapSize.{HeapSize}
use Rattle.heap_rule.specs.declared.view.View.{View}
use Rattle.heap_rule.specs.Contents.{units_of}
use Rattle.heap_rule.specs.Forms.{IsNarrow}
use Rattle.heap_rule.specs.Layout.{length_word}
use Rattle.heap_rule.specs.Maps.{Has}
use Rattle.heap_rule.specs.Sound.{IsPossible, Knows, StandsIn}
use Rattle.heap_rule.specs.Views.{LeadsTo}
use Rattle.heap_read.specs.declared.string.Window.{Window}
use Rattle.heap_read.specs.Windows.{IsWindow}

module _ (z : HeapSize) (W : List ℕ) (vs : List View) (v : View) (k : Knows z W vs v) where
  same_units : (p i : ℕ) → (p ≡ i) ⊎ Has v.forms p (Thin i) → units_of z W p ≡ units_of z W i
  same_units p i way = ⊎_elim (λ (e : p ≡ i). ap (units_of z W) e) (λ (h : Has v.forms p (Thin i)). sym (k.of_forms p (Thin i) h).shows.1) way

  -- the units of a string are among those of the one to which the view leads
  led_narrow : (s i offset : ℕ) → LeadsTo v s i offset → IsNarrow false (units_of z W i) → IsNarrow false (units_of z W s)
  led_narrow s i offset way h = ⊎_elim
      (λ (t : ((s ≡ i) ⊎ Has v.forms s (Thin i)) × (offset ≡ 0)). subst (IsNarrow false) (sym (same_units s i t.0)) h)
      (λ (t : (wide : Bool) × (parent : ℕ) × Has v.forms s (Sliced wide parent offset) × ((parent ≡ i) ⊎ Has v.forms parent (Thin i))).
      let whole : units_of z W s ≡ take (length_word z W s) (drop offset (units_of z W i)) = (k.of_forms s (Sliced t.0 t.1 offset)
      t.2).shows.2 ∙ ap (λ (xs : List ℕ). take (length_word z W s) (drop offset xs)) (same_units t.1 i t.3) in
      subst (IsNarrow false) (sym whole) (All-take (λ (u : ℕ). u < 256) (length_word z W s) (drop offset (units_of z W i)) (All-drop (λ (u : ℕ). u < 256) offset (units_of z W i) h)))
      way

narrow_in : (v : View) → StandsIn v → (s i offset start : ℕ) (fixed : Bool) (us : List ℕ) → LeadsTo v s i offset → Has v.forms i (Flat false start fixed) → Has v.units s us → IsNarrow false us
narrow_in v (z, agents, W, vs, j, stand, at, live) s i offset start fixed us way f h = let k = stand.knows j v at live in
    subst (IsNarrow false) (k.of_units s us h).1 (led_narrow z W vs v k s i offset way (k.of_forms i (Flat false start fixed) f).shows.3)

pub possible_narrow : (v : View) → IsPossible v → (s i offset start : ℕ) (fixed : Bool) (us : List ℕ) → LeadsTo v s i offset → Has v.forms i
    (Flat false start fixed) → Has v.units s us → IsNarrow false us
possible_narrow v p s i offset start fixed us way f h = ∥∥₁_elim p (Prim.hlevel props) (λ t. narrow_in v t s i offset start fixed us way f h)

all_narrow : (us : List ℕ) → IsNarrow false us → is_wide us ≡ false
all_narrow us h = none_wide us (λ q l. let small = h q 0 l in omega arith)

pub narrow_window : (v : View) (w : Window) (us : List ℕ) → IsPossible v → w.wide ≡ false → IsWindow v w us → is_wide us ≡ false
narrow_window v w us p e h = let form : Has v.forms h.id (Flat false w.start h.fixed) = subst (λ (b : Bool). Has v.forms h.id (Flat b w.start h.fixed)) e h.form in
    let whole = possible_narrow v p h.of h.id h.before w.start h.fixed h.whole h.leads form h.known in
    all_narrow us (subst (IsNarrow false) (sym h.shows) (All-take (λ (u : ℕ). u < 256) w.len (drop h.from h.whole) (All-drop (λ (u : ℕ). u < 256) h.from h.whole whole)))
