-- Words that are known to be frozen once they were loaded, and what is a fixed Flat.
use Rattle.std.proofs.Common.{◌≡◌, ℕ, ◌+◌, ◌-◌, ◌/◌, ◌%◌, ◌<◌, ◌≤◌, inl, inr, ⊎_elim, Bool, true, false, cond, sym, refl, ap, ◌∙◌, subst, arith}
use Rattle.std.proofs.Math.Logic.{∥∥₁_elim}
use Rattle.std.proofs.Props.{props}
use Rattle.std.specs.FinMap.{contains_key, insert}
use Rattle.js_units.specs.Lanes.{lane_count, words_over}
use Rattle.js_header.specs.declared.form.Form.{Form}
use Rattle.js_header.specs.declared.form.Form.TheVariants.{Flat, Thin}
use Rattle.heap_rule.specs.declared.view.View.{View}
use Rattle.heap_rule.specs.Learning.{learned_all}
use Rattle.heap_rule.specs.Loads.{loaded_word}
use Rattle.heap_rule.specs.Maps.{Has, HasKey}
use Rattle.heap_rule.specs.Sound.{IsPossible, StandsIn}
use Rattle.heap_rule.specs.Views.{IsFrozen}
use Rattle.heap_rule.proofs.Loads.{frozen_right}
use Rattle.heap_rule.proofs.MapLemmas.{has_key, insert_same, key_of}
use Rattle.heap_rule.proofs.Possible.{possible_slot}
use Rattle.heap_table.specs.Known.{KeepsKnown}
use Rattle.heap_read.specs.declared.string.Window.{Window}
use Rattle.heap_read.specs.Frozen.{HasLane, IsFixedBy, IsFixedWindow, IsWordHeld}
use Rattle.heap_read.specs.Windows.{IsFrozenWindow}
use Rattle.heap_read.proofs.Holding.{lane_by, lane_small, same_word}
use Rattle.heap_read.proofs.Leading.{possible_target}

free_in : (v : View) → StandsIn v → (c : ℕ) → IsFrozen v c → HasKey v.own_words c → ⊥
free_in v (z, agents, W, vs, j, s, at, live) c h own = (frozen_right z W vs s.standing v (s.knows j v at live) c h).free j v at live own

-- a word that is known to be frozen is no own one
pub possible_free : (v : View) → IsPossible v → (c : ℕ) → IsFrozen v c → HasKey v.own_words c → ⊥
possible_free v p c h own = ∥∥₁_elim p (Prim.hlevel props) (λ t. free_in v t c h own)

word_by : (v : View) (c x : ℕ) (b : Bool) → (b ≡ true → ⊥) → Has (learned_all (cond b v (record v { frozen = insert v.frozen c x }))).frozen c x
word_by v c x true never = absurd (never refl)
word_by v c x false never = insert_same v.frozen c x

-- so it is, as it was found, once it was loaded
pub word_there : (v w : View) → IsPossible v → (c x : ℕ) → IsFrozen v c → w ≡ learned_all (loaded_word v c x) → Has w.frozen c x
word_there v w p c x h e = subst (λ (u : View). Has u.frozen c x) (sym e) (word_by v c x (contains_key v.own_words c) (λ own. possible_free v p c h own))

-- what stands in a slot, or is forwarded to, is a fixed Flat
pub possible_fixed : (v : View) → IsPossible v → (i : ℕ) → IsFixedBy v i → (f : Form) → Has v.forms i f → (wide : Bool) × (start : ℕ) × (f ≡ Flat wide start true)
possible_fixed v p i way f h = ⊎_elim
    (λ (t : (k : ℕ) × Has v.slots k i). possible_slot v p t.0 i f t.1 h)
    (λ (t : (j : ℕ) × Has v.forms j (Thin i)). possible_target v p t.0 i f t.1 h) way

-- the lanes of a word that was loaded
pub held_lanes : (x : View) (w : Window) (i at k back count word : ℕ) → i < w.len → at ≡ (w.offset + i) / lane_count w.wide → k ≡ (w.offset + i) % lane_count w.wide
    → back ≤ k → back ≤ i → count ≤ lane_count w.wide - (k - back) → count ≤ w.len - (i - back) → Has x.frozen (w.start + at) word
    → IsWordHeld x w (record { word = word; wide = w.wide; lane = k - back; from = i - back; count = count })
held_lanes x w i at k back count word l a b m n r s has = let small = lane_small w.wide (w.offset + i) in record {
  lanes = omega arith;
  within = omega arith;
  each = λ q t. let o : ℕ = w.offset + i in let t' : q < count = t in let e = same_word w.wide o back q (omega arith) (omega arith) in let j : ℕ = i - back + q in
      let o' : w.offset + j ≡ o - back + q = omega arith in
      let word_is : w.start + (w.offset + j) / lane_count w.wide ≡ w.start + at = ap (λ (y : ℕ). w.start + y / lane_count w.wide) o' ∙
      (ap (λ (y : ℕ). w.start + y) e.0 ∙ ap (λ (y : ℕ). w.start + y) (sym a)) in
      let lane_is : (w.offset + j) % lane_count w.wide ≡ k - back + q = ap (λ (y : ℕ). y % lane_count w.wide) o' ∙ (e.1 ∙ ap (λ (y : ℕ). y - back + q) (sym b)) in
      record {
        word = word;
        frozen = subst (λ (c : ℕ). Has x.frozen c word) (sym word_is) has;
        lane = lane_by (λ _. word) w.wide w.start (w.offset + j) (w.start + at) (k - back + q) word word_is lane_is refl;
      };
}

module _ (v w : View) (k : KeepsKnown v w) where
  pub lane_kept : (wide : Bool) (start o unit : ℕ) → HasLane v wide start o unit → HasLane w wide start o unit
  lane_kept wide start o unit h = record { word = h.word; frozen = k.frozen (start + o / lane_count wide) h.word h.frozen; lane = h.lane }

  pub word_kept : (c : ℕ) → HasKey v.frozen c → HasKey w.frozen c
  word_kept c h = let p = has_key v.frozen c h in key_of w.frozen c p.0 (k.frozen c p.0 p.1)

  pub fixed_by_kept : (i : ℕ) → IsFixedBy v i → IsFixedBy w i
  fixed_by_kept i way = ⊎_elim (λ (t : (l : ℕ) × Has v.slots l i). inl (t.0, k.slots t.0 i t.1)) (λ (t : (j : ℕ) × Has v.forms j (Thin i)). inr (t.0, k.thins t.0 i t.1)) way

pub lane_key : (v : View) (wide : Bool) (start o unit : ℕ) → HasLane v wide start o unit → HasKey v.frozen (start + o / lane_count wide)
lane_key v wide start o unit h = key_of v.frozen (start + o / lane_count wide) h.word h.frozen

lanes_over : (wide : Bool) (start o c : ℕ) → start + o / lane_count wide ≤ c → start ≤ c
lanes_over true start o c l = omega arith
lanes_over false start o c l = omega arith

-- the words of a fixed Flat are known to be frozen
pub fixed_frozen : (v : View) (i : ℕ) (w : Window) → IsFixedWindow v i w → IsFrozenWindow v w
fixed_frozen v i w h c lo hi = let e = h.whole in let e' : w.offset + w.len ≡ w.len = omega arith in
    inr (i, w.wide, w.start, true, w.len, h.form, inl h.long, lanes_over w.wide w.start w.offset c lo, subst (λ (n : ℕ). c < w.start + words_over w.wide n) e' hi)
