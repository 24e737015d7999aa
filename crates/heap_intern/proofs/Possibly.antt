-- What the rule says of one live view alone, beside what heap_rule has of it: a word that is known to be frozen is no own one, so it is as the
-- view has it; the lanes of a Flat past its length are 0; what a string forwards to is a fixed Flat with its units. And a slot whose string has the
-- units isn't shut for them.
use Rattle.std.proofs.Common.{◌≡◌, ℕ, ◌+◌, ◌*◌, ◌/◌, ◌<◌, ◌≤◌, inl, inr, ⊎_elim, Bool, true, false, List, sym, refl, ap, ◌∙◌, subst, arith, Option, Some, None}
use Rattle.std.specs.Prelude.{unwrap_or}
use Rattle.std.proofs.Math.Logic.{∥∥₁_elim}
use Rattle.std.proofs.Props.{props}
use Rattle.std.specs.FinMap.{get}
use Rattle.js_units.specs.Lanes.{lane_count, words_over}
use Rattle.js_header.specs.declared.form.Form.{Form}
use Rattle.js_header.specs.declared.form.Form.TheVariants.{Unborn, Flat, Cons, Sliced, Thin}
use Rattle.heap_rule.specs.declared.view.View.{View}
use Rattle.heap_rule.specs.Forms.{IsLater}
use Rattle.heap_rule.specs.Layout.{content, slot}
use Rattle.heap_rule.specs.Contents.{lane_in, units_of}
use Rattle.heap_rule.specs.Maps.{Has, HasKey}
use Rattle.heap_rule.specs.Views.{shown_word}
use Rattle.heap_rule.specs.Slots.{IsShutAt}
use Rattle.heap_rule.specs.Sound.{IsPossible, StandsAs, StandsIn}
use Rattle.heap_rule.proofs.Birth.{shown_by}
use Rattle.heap_rule.proofs.MapLemmas.{has_key, key_of}
use Rattle.heap_rule.proofs.Slots.{differs_right}
use Rattle.heap_rule.proofs.UnitLemmas.{lane_same}
use Rattle.heap_read.proofs.Freezing.{possible_free}

not_own : (o f : Option ℕ) (x : ℕ) → f ≡ Some x → ((y : ℕ) → o ≡ Some y → ⊥) → unwrap_or o (unwrap_or f 0) ≡ x
not_own None f x e never = ap (λ (g : Option ℕ). unwrap_or g 0) e
not_own (Some y) f x e never = absurd (never y refl)

-- a frozen word as the view shows it
pub shown_frozen : (v : View) → IsPossible v → (c x : ℕ) → Has v.frozen c x → shown_word v c ≡ x
shown_frozen v p c x h = not_own (get v.own_words c) (get v.frozen c) x h (λ y e. possible_free v p c (inl (key_of v.frozen c x h)) (key_of v.own_words c y e))

pub word_of_lane : (wide : Bool) (n o : ℕ) → o < words_over wide n * lane_count wide → o / lane_count wide < words_over wide n
word_of_lane true n o l = omega arith
word_of_lane false n o l = omega arith

zeros_in : (v : View) → StandsIn v → (i : ℕ) (wide : Bool) (start : ℕ) (fixed : Bool) (n : ℕ) → Has v.forms i (Flat wide start fixed) → Has
    v.lengths i n → ((q : ℕ) → q < words_over wide n → HasKey v.frozen (start + q))
    → (o : ℕ) → n ≤ o → o < words_over wide n * lane_count wide → lane_in (shown_word v) wide start o ≡ 0
zeros_in v (z, agents, W, vs, j, s, at, live) i wide start fixed n f l h o lo hi = let k = s.knows j v at live in let c : ℕ = start + o / lane_count wide in
    let word : shown_word v c ≡ content z W c = shown_by (get v.own_words c) (get v.frozen c) (content z W c) (λ x e. ((s.own_words j v at live).each c x e).1) (λ x e. (k.of_frozen c x e).1)
    (inr (h (o / lane_count wide) (word_of_lane wide n o hi))) in
    lane_same (shown_word v) (content z W) wide start o word
    ∙ subst (λ (m : ℕ). m ≤ o → o < words_over wide m * lane_count wide → lane_in (content z W) wide start o ≡ 0) (k.of_lengths i n l).1 ((k.of_forms i (Flat wide start fixed) f).shows.2 o) lo hi

pub possible_zeros : (v : View) → IsPossible v → (i : ℕ) (wide : Bool) (start : ℕ) (fixed : Bool) (n : ℕ) → Has v.forms i
    (Flat wide start fixed) → Has v.lengths i n → ((q : ℕ) → q < words_over wide n → HasKey v.frozen (start + q))
    → (o : ℕ) → n ≤ o → o < words_over wide n * lane_count wide → lane_in (shown_word v) wide start o ≡ 0
possible_zeros v p i wide start fixed n f l h o lo hi = ∥∥₁_elim p (Prim.hlevel props) (λ t. zeros_in v t i wide start fixed n f l h o lo hi)

open_in : (v : View) → StandsIn v → (us : List ℕ) (k i : ℕ) → Has v.slots k i → Has v.units i us → IsShutAt v us k → ⊥
open_in v (z, agents, W, vs, j, s, at, live) us k i h u t = let know = s.knows j v at live in let same : Some t.0 ≡ Some i = sym t.1 ∙ h in let is : t.0 ≡ i = cc in let q = know.of_slots k t.0 t.1 in
    differs_right z agents W vs s v know us t.0 (s.slots k t.0 q.0 q.1).born t.2 (ap (units_of z W) is ∙ (know.of_units i us u).1)

-- a slot with a string that is known to have the units isn't shut for them
pub possible_open : (v : View) → IsPossible v → (us : List ℕ) (k i : ℕ) → Has v.slots k i → Has v.units i us → IsShutAt v us k → ⊥
possible_open v p us k i h u t = ∥∥₁_elim p (Prim.hlevel props) (λ st. open_in v st us k i h u t)

unborn_in : (v : View) → StandsIn v → (i : ℕ) (f : Form) → HasKey v.own_ids i → Has v.forms i f → ⊥
unborn_in v (z, agents, W, vs, l, s, at, live) i f own h = let o = has_key v.own_ids i own in ((s.knows l v at live).of_forms i f h).born.1 ((s.own_ids l v at live).each i o.0 o.1).1

-- an own id has no form
pub possible_unborn : (v : View) → IsPossible v → (i : ℕ) (f : Form) → HasKey v.own_ids i → Has v.forms i f → ⊥
possible_unborn v p i f own h = ∥∥₁_elim p (Prim.hlevel props) (λ t. unborn_in v t i f own h)

thin_answer_in : (v : View) → StandsIn v → (s t k i : ℕ) (us : List ℕ) → Has v.forms s (Thin t) → Has v.units s us → Has v.slots k i → Has v.units i us → t ≡ i
thin_answer_in v (z, agents, W, vs, l, st, at, live) s t k i us f u h w = let know = st.knows l v at live in let n = know.of_forms s (Thin t) f in let here = know.of_slots k i h in
    let later : Some n.now ≡ Some (Thin t) = ap Some (⊎_elim (λ e. sym e) (λ (x : IsLater (Thin t) n.now). absurd (thin_last n.now x)) n.later) in
    let stands = (st.standing s n.born) in let d : Some stands.now ≡ Some (Thin t) = sym stands.decodes ∙ (n.decodes ∙ later) in let is : stands.now ≡ Thin t = cc in
    let there = subst (StandsAs z W vs s) is stands.stands in let slot_is = there.3 in
    let same : units_of z W t ≡ units_of z W i = n.shows.1 ∙ ((know.of_units s us u).1 ∙ sym (know.of_units i us w).1) in
    let one : slot_is.0 ≡ k = st.different slot_is.0 k t i slot_is.1 here.0 slot_is.2 here.1 same in
    let number : t + 1 ≡ i + 1 = sym slot_is.2 ∙ (ap (λ (q : ℕ). slot z W q) one ∙ here.1) in omega arith
  where
    thin_last : (g : Form) → IsLater (Thin t) g → ⊥
    thin_last Unborn x = absurd (cc)
    thin_last (Flat a b c) x = absurd (cc)
    thin_last (Cons a b c) x = absurd (cc)
    thin_last (Sliced a b c) x = absurd (cc)
    thin_last (Thin a) x = absurd (cc)

-- a string that forwards does so to the one in the table with its units
pub possible_thin_answer : (v : View) → IsPossible v → (s t k i : ℕ) (us : List ℕ) → Has v.forms s (Thin t) → Has v.units s us → Has v.slots k i → Has v.units i us → t ≡ i
possible_thin_answer v p s t k i us f u h w = ∥∥₁_elim p (Prim.hlevel props) (λ q. thin_answer_in v q s t k i us f u h w)

thin_units_in : (v : View) → StandsIn v → (s t : ℕ) (us ts : List ℕ) → Has v.forms s (Thin t) → Has v.units s us → Has v.units t ts → ts ≡ us
thin_units_in v (z, agents, W, vs, l, st, at, live) s t us ts f u w = let know = st.knows l v at live in
    sym (know.of_units t ts w).1 ∙ ((know.of_forms s (Thin t) f).shows.1 ∙ (know.of_units s us u).1)

-- a string that forwards has the units of the one to which it does
pub possible_thin_units : (v : View) → IsPossible v → (s t : ℕ) (us ts : List ℕ) → Has v.forms s (Thin t) → Has v.units s us → Has v.units t ts → ts ≡ us
possible_thin_units v p s t us ts f u w = ∥∥₁_elim p (Prim.hlevel props) (λ q. thin_units_in v q s t us ts f u w)

form_in : (v : View) → StandsIn v → (i : ℕ) → Has v.forms i Unborn → ⊥
form_in v (z, agents, W, vs, l, st, at, live) i h = ((st.knows l v at live).of_forms i Unborn h).shows

-- no string is seen unborn
pub possible_born : (v : View) → IsPossible v → (i : ℕ) → Has v.forms i Unborn → ⊥
possible_born v p i h = ∥∥₁_elim p (Prim.hlevel props) (λ q. form_in v q i h)
