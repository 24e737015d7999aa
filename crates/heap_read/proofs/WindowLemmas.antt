-- Reading the units of a window a word at a time.
use Rattle.std.proofs.Common.{◌≡◌, ℕ, ◌+◌, ◌-◌, ◌%◌, ◌<◌, ◌≤◌, Bool, refl, subst, List, ◌++◌, length, get_or, sym, ap, ◌∙◌, arith, ⊎_elim}
use Rattle.std.specs.Prelude.{slice_range, take, drop}
use Rattle.std.proofs.Common.{get_or-take, get_or-drop}
use Rattle.std.proofs.lemmas.Bool.{cases_lt}
use Rattle.std.proofs.lemmas.List.{length-drop, length-take-le}
use Rattle.std.proofs.lemmas.Grind.{same_number_lists}
use Rattle.std.proofs.lemmas.Simd.{chunk-drop}
use Rattle.js_units.specs.Lanes.{hash_from, lane_count, lane_of}
use Rattle.js_units.proofs.Hashing.{hash_append}
use Rattle.heap_read.specs.declared.source.HeldWord.{HeldWord}
use Rattle.heap_rule.specs.declared.view.View.{View}
use Rattle.heap_read.specs.declared.string.Window.{Window}
use Rattle.heap_read.specs.Reads.{KeepsForms, OnlyLoads}
use Rattle.heap_read.specs.Windows.{IsFrozenWindow, IsWindow}
use Rattle.heap_rule.specs.Sound.{IsPossible}
use Rattle.heap_rule.proofs.Possible.{possible_short}
use Rattle.heap_read.specs.Written.{HoldsUnits, ShowsOn}
use Rattle.heap_read.proofs.Showing.{forms_held, window_frozen, window_kept}

-- the lanes of a held word from that of unit i on
module _ (us : List ℕ) (h : HeldWord) (holds : HoldsUnits us h) (i : ℕ) (low : h.from ≤ i) where
  pub unit_of_lane : (k : ℕ) → k < h.count - (i - h.from) → lane_of h.wide h.word (h.lane + (i - h.from) + k) ≡ get_or us (i + k) 0
  unit_of_lane k l =
      let e : h.lane + (i - h.from + k) ≡ h.lane + (i - h.from) + k = omega arith in
      let f : h.from + (i - h.from + k) ≡ i + k = omega arith in
      ap (lane_of h.wide h.word) (sym e) ∙ holds.each (i - h.from + k) (omega arith) ∙ ap (λ j. get_or us j 0) f

  module _ (unit at : ℕ) (none : (k : ℕ) → k < at → h.lane + (i - h.from) + k < lane_count h.wide → lane_of h.wide h.word (h.lane + (i - h.from) + k) ≡ unit → ⊥) where
    -- no unit before the first such lane
    pub none_in_word : (j : ℕ) → i ≤ j → j < i + at → j < h.from + h.count → get_or us j 0 ≡ unit → ⊥
    none_in_word j a b m e =
        let r = holds.lanes in
        let f : i + (j - i) ≡ j = omega arith in
        none (j - i) (omega arith) (omega arith) (unit_of_lane (j - i) (omega arith) ∙ ap (λ k. get_or us k 0) f ∙ e)

-- the lanes of a word from that of unit i on, whose number was computed
module _ (w : Window) (us : List ℕ) (i word lane : ℕ) (shows : ShowsOn w us i word) (is : lane ≡ (w.offset + i) % lane_count w.wide) where
  pub lane_on : (k : ℕ) → lane + k < lane_count w.wide → i + k < w.len → lane_of w.wide word (lane + k) ≡ get_or us (i + k) 0
  lane_on k l m = ap (λ (n : ℕ). lane_of w.wide word (n + k)) is ∙ shows.each k (omega arith) m

  -- where it is the word's first
  pub first_on : lane ≡ 0 → (k : ℕ) → k < lane_count w.wide → i + k < w.len → lane_of w.wide word k ≡ get_or us (i + k) 0
  first_on z k l m = let e : lane + k ≡ k = omega arith in ap (lane_of w.wide word) (sym e) ∙ lane_on k (omega arith) m

  -- no unit before the first such lane
  pub none_in_lanes : (unit at : ℕ) → ((k : ℕ) → k < at → lane + k < lane_count w.wide → lane_of w.wide word (lane + k) ≡ unit → ⊥)
      → (j : ℕ) → i ≤ j → j < i + at → j < i + (lane_count w.wide - lane) → j < w.len → get_or us j 0 ≡ unit → ⊥
  none_in_lanes unit at none j a b l m e =
      let f : i + (j - i) ≡ j = omega arith in
      none (j - i) (omega arith) (omega arith) (lane_on (j - i) (omega arith) (omega arith) ∙ (ap (λ k. get_or us k 0) f ∙ e))

  -- nor where that lane is the word's first
  pub none_in_word_on : lane ≡ 0 → (unit at : ℕ) → ((k : ℕ) → k < at → 0 + k < lane_count w.wide → lane_of w.wide word (0 + k) ≡ unit → ⊥)
      → (j : ℕ) → i ≤ j → j < i + at → j < i + lane_count w.wide → j < w.len → get_or us j 0 ≡ unit → ⊥
  none_in_word_on z unit at none j a b l m e =
      let f : i + (j - i) ≡ j = omega arith in
      let g : 0 + (j - i) ≡ j - i = omega arith in
      none (j - i) (omega arith) (omega arith) (ap (lane_of w.wide word) g ∙ (first_on z (j - i) (omega arith) (omega arith) ∙ (ap (λ k. get_or us k 0) f ∙ e)))

-- the lanes of a word whose lowest one is that of unit i
pub whole_on : (w : Window) (us : List ℕ) (i word : ℕ) (wide : Bool) → wide ≡ w.wide → ShowsOn w us i word → (w.offset + i) % lane_count wide ≡ 0
    → (k : ℕ) → k < lane_count wide → i + k < w.len → lane_of wide word k ≡ get_or us (i + k) 0
whole_on w us i word wide e shows z k l m =
    let z' : (w.offset + i) % lane_count w.wide ≡ 0 = subst (λ (b : Bool). (w.offset + i) % lane_count b ≡ 0) e z in
    let l' : k < lane_count w.wide = subst (λ (b : Bool). k < lane_count b) e l in
    ap (λ (b : Bool). lane_of b word k) e ∙ first_on w us i word ((w.offset + i) % lane_count w.wide) shows refl z' k l' m

-- what was searched before, and the word
pub none_on : (us : List ℕ) (unit from i next : ℕ) → ((k : ℕ) → from ≤ k → k < i → get_or us k 0 ≡ unit → ⊥) → ((k : ℕ) → i ≤ k → k < next →
    get_or us k 0 ≡ unit → ⊥) → (k : ℕ) → from ≤ k → k < next → get_or us k 0 ≡ unit → ⊥
none_on us unit from i next old new k a b e = ⊎_elim (λ l. old k a l e) (λ l. new k l b e) (cases_lt k i)

-- the same where the next ones are counted from the first of them
pub none_behind : (us : List ℕ) (unit i n : ℕ) → ((k : ℕ) → k < n → get_or us (i + k) 0 ≡ unit → ⊥) → (k : ℕ) → i ≤ k → k < i + n → get_or us k 0 ≡ unit → ⊥
none_behind us unit i n none k a b e = let f : i + (k - i) ≡ k = omega arith in none (k - i) (omega arith) (ap (λ x. get_or us x 0) f ∙ e)

-- some more units after those that were copied, from place `low` on
pub read_on : (us : List ℕ) (from low done count : ℕ) (old new : List ℕ) → ((k : ℕ) → low ≤ k → k < done → get_or old k 0 ≡ get_or us
    (from + k) 0) → ((k : ℕ) → k < done → get_or new k 0 ≡ get_or old k 0)
    → ((k : ℕ) → k < count → get_or new (done + k) 0 ≡ get_or us (from + done + k) 0) → (k : ℕ) → low ≤ k → k < done + count → get_or new k 0 ≡ get_or us (from + k) 0
read_on us from low done count old new was before inside k from_low l = ⊎_elim
    (λ a. before k a ∙ was k from_low a)
    (λ a.
    let e : done + (k - done) ≡ k = omega arith in
    let f : from + done + (k - done) ≡ from + k = omega arith in
    ap (λ j. get_or new j 0) (sym e) ∙ inside (k - done) (omega arith) ∙ ap (λ j. get_or us j 0) f)
    (cases_lt k done)

-- from the first place on
pub read_more : (us : List ℕ) (from done count : ℕ) (old new : List ℕ) → ((k : ℕ) → k < done → get_or old k 0 ≡ get_or us (from + k) 0) → ((k : ℕ) → k < done → get_or new k 0 ≡ get_or old k 0)
    → ((k : ℕ) → k < count → get_or new (done + k) 0 ≡ get_or us (from + done + k) 0) → (k : ℕ) → k < done + count → get_or new k 0 ≡ get_or us (from + k) 0
read_more us from done count old new was before inside k l = read_on us from 0 done count old new (λ j z. was j) before inside k (omega arith) l

-- all of them
pub read_all : (us : List ℕ) (from n : ℕ) (into : List ℕ) → length into ≡ n → from + n
    ≤ length us → ((k : ℕ) → k < n → get_or into k 0 ≡ get_or us (from + k) 0) → into ≡ slice_range us from (from + n)
read_all us from n into e l same =
    let size : from + n - from ≡ n = omega arith in
    let long = length-take-le n (drop from us) (omega (arith, length-drop from us)) in
    same_number_lists into (take n (drop from us)) (e ∙ sym long) (λ k b. same k (omega arith) ∙ sym (get_or-take n (drop from us) k 0 (omega arith) ∙ get_or-drop from us k 0))
    ∙ ap (λ m. take m (drop from us)) (sym size)

-- a window shows the same later
pub window_later : (v u : View) (w : Window) (us : List ℕ) → OnlyLoads v u → KeepsForms v u → IsWindow v w us → IsWindow u w us
window_later v u w us r f h = window_kept v u (forms_held v u f.0) w us r.known h

pub frozen_later : (v u : View) (w : Window) (us : List ℕ) → OnlyLoads v u → KeepsForms v u → IsWindow v w us → IsFrozenWindow u w
frozen_later v u w us r f h = window_frozen u w us (window_later v u w us r f h)

pub forms_trans : (v u x : View) → KeepsForms v u → KeepsForms u x → KeepsForms v x
forms_trans v u x a b = (b.0 ∙ a.0, b.1 ∙ a.1)

-- no window is longer than the longest string
pub window_short : (v : View) (w : Window) (us : List ℕ) → IsPossible v → IsWindow v w us → w.len ≤ 536870888
window_short v w us p h = let m = possible_short v p h.of h.whole h.known in let l = h.within in omega arith

-- the hash goes on over some units
pub hash_word : (h g i n : ℕ) (us ls : List ℕ) → i + n ≤ length us → length ls ≡ n → ((k : ℕ) → k < n → get_or ls k 0 ≡ get_or us (i + k) 0)
    → hash_from h (drop i us) ≡ g → hash_from (hash_from h ls) (drop (i + n) us) ≡ g
hash_word h g i n us ls l e same k = let long = length-take-le n (drop i us) (omega (arith, length-drop i us)) in
    let here : ls ≡ take n (drop i us) = same_number_lists ls (take n (drop i us)) (e ∙ sym long)
    (λ j b. same j (omega arith) ∙ sym (get_or-take n (drop i us) j 0 (omega arith) ∙ get_or-drop i us j 0)) in
    sym (hash_append h ls (drop (i + n) us)) ∙ (ap (λ (xs : List ℕ). hash_from h (xs ++ drop (i + n) us)) here ∙ (ap (hash_from h) (sym (chunk-drop i n us)) ∙ k))
