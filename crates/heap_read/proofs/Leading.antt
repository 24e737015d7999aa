-- What the rule says of a Thin and of a Sliced that were seen, and the window on a string over the words to which the view leads from it.
use Rattle.std.proofs.Common.{◌≡◌, ◌≢◌, ℕ, ◌+◌, ◌<◌, ◌≤◌, inl, inr, ⊎_elim, Bool, true, false, List, length, refl, ap, sym, subst, ◌∙◌, arith, Some}
use Rattle.std.proofs.lemmas.List.{take_all}
use Rattle.std.proofs.Math.Logic.{∥∥₁_elim}
use Rattle.std.proofs.Props.{props}
use Rattle.js_header.specs.declared.form.Form.{Form}
use Rattle.js_header.specs.declared.form.Form.TheVariants.{Unborn, Flat, Cons, Sliced, Thin}
use Rattle.heap_rule.specs.declared.view.View.{View}
use Rattle.heap_rule.specs.Forms.{IsCons, IsLater, IsNarrow, IsSolid}
use Rattle.heap_rule.specs.Layout.{length_word}
use Rattle.heap_rule.specs.Maps.{Has}
use Rattle.heap_rule.specs.Sound.{IsPossible, StandsIn}
use Rattle.heap_rule.specs.Views.{HasLength, LeadsTo}
use Rattle.heap_rule.proofs.Possible.{possible_length}
use Rattle.heap_table.specs.Known.{KeepsKnown}
use Rattle.heap_read.specs.Windows.{IsLed, IsWindow, StandsFor}
use Rattle.heap_read.proofs.Showing.{forms_held, stands_for_kept}

none_later : (f : Form) (wide : Bool) (start : ℕ) → IsLater f (Flat wide start true) → ⊥
none_later Unborn wide start l = absurd (cc)
none_later (Flat w s true) wide start l = absurd (cc)
none_later (Flat w s false) wide start l = absurd (cc)
none_later (Cons w a b) wide start l = absurd (cc)
none_later (Sliced w a b) wide start l = absurd (cc)
none_later (Thin t) wide start l = absurd (cc)

abbrev is_fixed : Form → Bool
is_fixed (Flat wide start fixed) = fixed
is_fixed Unborn = false
is_fixed (Cons wide left right) = false
is_fixed (Sliced wide parent offset) = false
is_fixed (Thin target) = false

fixed_is : (f : Form) → is_fixed f ≡ true → (wide : Bool) × (start : ℕ) × (f ≡ Flat wide start true)
fixed_is (Flat wide start fixed) e = (wide, start, ap (Flat wide start) e)
fixed_is Unborn e = absurd (cc)
fixed_is (Cons wide left right) e = absurd (cc)
fixed_is (Sliced wide parent offset) e = absurd (cc)
fixed_is (Thin target) e = absurd (cc)

target_in : (v : View) → StandsIn v → (i t : ℕ) (f : Form) → Has v.forms i (Thin t) → Has v.forms t f → is_fixed f ≡ true
target_in v (z, agents, W, vs, j, s, at, live) i t f h g = let know = s.knows j v at live in let u = (know.of_forms i (Thin t) h).shows.2 in let o = know.of_forms t f g in
    let e : Some o.now ≡ Some (Flat u.0 u.1 true) = sym o.decodes ∙ u.2 in let is : o.now ≡ Flat u.0 u.1 true = cc in
    ap is_fixed (⊎_elim (λ same. same ∙ is) (λ later. absurd (none_later f u.0 u.1 (subst (λ (y : Form). IsLater f y) is later))) o.later)

-- whatever was seen of a string to which one forwards is a fixed Flat
pub possible_target : (v : View) → IsPossible v → (i t : ℕ) (f : Form) → Has v.forms i (Thin t) → Has v.forms t f → (wide : Bool) × (start : ℕ) × (f ≡ Flat wide start true)
possible_target v p i t f h g = fixed_is f (∥∥₁_elim p (Prim.hlevel props) (λ q. target_in v q i t f h g))

thin_length_in : (v : View) → StandsIn v → (i t n : ℕ) (us : List ℕ) → Has v.forms i (Thin t) → Has v.units i us → Has v.lengths t n → n ≡ length us
thin_length_in v (z, agents, W, vs, j, s, at, live) i t n us h u l = let k = s.knows j v at live in let o = (k.of_forms i (Thin t) h).shows in
    sym (k.of_lengths t n l).1 ∙ ((s.standing t o.0).length_is ∙ ap length (o.1 ∙ (k.of_units i us u).1))

-- its length is that of the one which forwards to it
pub thin_length : (v : View) → IsPossible v → (i t n : ℕ) (us : List ℕ) → Has v.forms i (Thin t) → Has v.units i us → Has v.lengths t n → n ≡ length us
thin_length v p i t n us h u l = ∥∥₁_elim p (Prim.hlevel props) (λ q. thin_length_in v q i t n us h u l)

thin_narrow_in : (v : View) → StandsIn v → (i t : ℕ) (wide : Bool) (start : ℕ) (us : List ℕ) → Has v.forms i (Thin t) → Has v.units i us → Has v.forms t (Flat wide start true) → IsNarrow wide us
thin_narrow_in v (z, agents, W, vs, j, s, at, live) i t wide start us h u g = let k = s.knows j v at live in
    subst (IsNarrow wide) ((k.of_forms i (Thin t) h).shows.1 ∙ (k.of_units i us u).1) (k.of_forms t (Flat wide start true) g).shows.3

-- without the wide bit of the Flat to which it forwards all units of a string are below 256
pub narrow_thin : (v : View) → IsPossible v → (i t : ℕ) (wide : Bool) (start : ℕ) (us : List ℕ) → Has v.forms i (Thin t) → Has v.units i us → Has v.forms t (Flat wide start true) → IsNarrow wide us
narrow_thin v p i t true start us h u g = tt
narrow_thin v p i t false start us h u g = ∥∥₁_elim p (Prim.hlevel props) (λ q. thin_narrow_in v q i t false start us h u g)

part_narrow_in : (v : View) → StandsIn v → (i : ℕ) (wide : Bool) (parent offset : ℕ) (us : List ℕ) → Has v.forms i (Sliced wide parent offset) → Has v.units i us → IsNarrow wide us
part_narrow_in v (z, agents, W, vs, j, s, at, live) i wide parent offset us h u =
    let k = s.knows j v at live in subst (IsNarrow wide) (k.of_units i us u).1 (k.of_forms i (Sliced wide parent offset) h).shows.6

pub narrow_sliced : (v : View) → IsPossible v → (i : ℕ) (wide : Bool) (parent offset : ℕ) (us : List ℕ) → Has v.forms i (Sliced wide parent offset) → Has v.units i us → IsNarrow wide us
narrow_sliced v p i true parent offset us h u = tt
narrow_sliced v p i false parent offset us h u = ∥∥₁_elim p (Prim.hlevel props) (λ q. part_narrow_in v q i false parent offset us h u)

parent_in : (v : View) → StandsIn v → (i : ℕ) (wide : Bool) (parent offset : ℕ) → Has v.forms i (Sliced wide parent offset) → parent < i
parent_in v (z, agents, W, vs, j, s, at, live) i wide parent offset h = ((s.knows j v at live).of_forms i (Sliced wide parent offset) h).shows.4

-- a Sliced has a parent with a smaller id, and 13 units or more
pub possible_parent : (v : View) → IsPossible v → (i : ℕ) (wide : Bool) (parent offset : ℕ) → Has v.forms i (Sliced wide parent offset) → parent < i
possible_parent v p i wide parent offset h = ∥∥₁_elim p (Prim.hlevel props) (λ q. parent_in v q i wide parent offset h)

sliced_in : (v : View) → StandsIn v → (i : ℕ) (wide : Bool) (parent offset : ℕ) (us : List ℕ) → Has v.forms i (Sliced wide parent offset) → Has v.units i us → 13 ≤ length us
sliced_in v (z, agents, W, vs, j, s, at, live) i wide parent offset us h u = let k = s.knows j v at live in let a = k.of_units i us u in
    let n : length_word z W i ≡ length us = (s.standing i a.0).length_is ∙ ap length a.1 in subst (λ (x : ℕ). 13 ≤ x) n (k.of_forms i (Sliced wide parent offset) h).shows.5

pub possible_sliced : (v : View) → IsPossible v → (i : ℕ) (wide : Bool) (parent offset : ℕ) (us : List ℕ) → Has v.forms i (Sliced wide parent offset) → Has v.units i us → 13 ≤ length us
possible_sliced v p i wide parent offset us h u = ∥∥₁_elim p (Prim.hlevel props) (λ q. sliced_in v q i wide parent offset us h u)

-- Of the forms of a string that is settled all but a Sliced are
pub leaf_solid : (f : Form) → f ≢ Unborn → (IsCons f → ⊥) → ((wide : Bool) (parent offset : ℕ) → f ≡ Sliced wide parent offset → ⊥) → IsSolid f
leaf_solid Unborn real leaf other = absurd (real refl)
leaf_solid (Flat wide start fixed) real leaf other = tt
leaf_solid (Cons wide left right) real leaf other = absurd (leaf tt)
leaf_solid (Sliced wide parent offset) real leaf other = absurd (other wide parent offset refl)
leaf_solid (Thin target) real leaf other = tt

-- the window over the words to which the view leads, once the length by which the units are there was loaded
module _ (v w : View) (s by : ℕ) (wide : Bool) (start before n : ℕ) (us : List ℕ) (p : IsPossible w) (same : w.forms ≡ v.forms) (k : KeepsKnown v w) (led : IsLed v s by wide start before)
    (count : Has w.lengths by n) (units : Has w.units s us) where
  led_length : n ≡ length us
  led_length = ⊎_elim
      (λ (t : StandsFor v s led.id × (by ≡ led.id) × (before ≡ 0)). let there : Has w.lengths led.id n = subst (λ (i : ℕ). Has w.lengths i n) t.1 count in ⊎_elim
      (λ (e : s ≡ led.id). possible_length w p s n us units (subst (λ (i : ℕ). Has w.lengths i n) (sym e) there))
      (λ (h : Has v.forms s (Thin led.id)). thin_length w p s led.id n us (forms_held v w same s (Thin led.id) h) units there) t.0)
      (λ t. possible_length w p s n us units (subst (λ (i : ℕ). Has w.lengths i n) t.4 count))
      led.way

  led_leads : LeadsTo w s led.id before
  led_leads = ⊎_elim
      (λ (t : StandsFor v s led.id × (by ≡ led.id) × (before ≡ 0)). inl (stands_for_kept v w (forms_held v w same) s led.id t.0, t.2))
      (λ t. inr (t.0, t.1, forms_held v w same s (Sliced t.0 t.1 before) t.2, stands_for_kept v w (forms_held v w same) t.1 led.id t.3))
      led.way

  led_long : HasLength w led.id (before + length us)
  led_long = let size = led_length in ⊎_elim
      (λ (t : StandsFor v s led.id × (by ≡ led.id) × (before ≡ 0)). let none = t.2 in let plain : n ≡ before + length us = omega arith in
      inl (subst (λ (m : ℕ). Has w.lengths led.id m) plain (subst (λ (i : ℕ). Has w.lengths i n) t.1 count)))
      (λ t. inr (
        s,
        t.0,
        t.1,
        before,
        n,
        forms_held v w same s (Sliced t.0 t.1 before) t.2,
        subst (λ (i : ℕ). Has w.lengths i n) t.4 count,
        omega arith,
        stands_for_kept v w (forms_held v w same) t.1 led.id t.3,
      ))
      led.way

  pub led_window : IsWindow w (record { wide = wide; start = start; offset = before; len = n }) us × (n ≡ length us)
  led_window = let size = led_length in (
    record {
      of = s;
      whole = us;
      known = units;
      id = led.id;
      before = before;
      leads = led_leads;
      fixed = led.fixed;
      form = forms_held v w same led.id (Flat wide start led.fixed) led.form;
      length_known = led_long;
      from = 0;
      place = omega arith;
      within = omega arith;
      shows = sym (take_all n us (omega arith));
    },
    size,
  )

-- what leads from a string to a Flat does so while forms stay
pub led_later : (v w : View) (s by : ℕ) (wide : Bool) (start before : ℕ) → w.forms ≡ v.forms → IsLed v s by wide start before → IsLed w s by wide start before
led_later v w s by wide start before same led = record {
  id = led.id;
  fixed = led.fixed;
  form = forms_held v w same led.id (Flat wide start led.fixed) led.form;
  way = ⊎_elim
      (λ (t : StandsFor v s led.id × (by ≡ led.id) × (before ≡ 0)). inl (stands_for_kept v w (forms_held v w same) s led.id t.0, t.1, t.2))
      (λ t. inr (t.0, t.1, forms_held v w same s (Sliced t.0 t.1 before) t.2, stands_for_kept v w (forms_held v w same) t.1 led.id t.3, t.4))
      led.way;
}
