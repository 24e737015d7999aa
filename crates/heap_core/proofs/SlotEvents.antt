-- What the executable steps on slots do to the machine, as plain data.
use Rattle.std.proofs.Common.{◌≡◌, ℕ, zero, suc, ◌+◌, ◌/◌, ◌%◌, ◌^◌, cond, eqb, refl, ◌<◌, ⊎_elim, Bool, true, false, List, length, get_or, set, sym, ap, ◌∙◌}
use Rattle.std.proofs.Common.{subst, arith, Some, Option, Result, Ok, Err}
use Rattle.js_header.specs.Form.{IsInRange, form_of, word_of, form_by_tag, first_field, second_field, is_wide_word, is_fixed}
use Rattle.heap_rule.proofs.Learning.{if_some}
use Rattle.std.proofs.Math.Nat.{mod-lt}
use Rattle.js_header.specs.declared.form.Form.{Form}
use Rattle.js_header.specs.declared.form.Form.TheVariants.{Unborn, Flat, Cons, Sliced, Thin}
use Rattle.heap_rule.specs.declared.view.View.{View}
use Rattle.heap_rule.specs.declared.size.HeapSize.{HeapSize}
use Rattle.heap_rule.specs.Layout.{IsLawfulSize, slot_at, slot, form}
use Rattle.heap_rule.specs.Forms.{IsLater}
use Rattle.heap_rule.specs.Learning.{learned}
use Rattle.heap_rule.specs.Slots.{loaded_slot, took_slot}
use Rattle.heap_rule.specs.Sound.{At}
use Rattle.heap_rule.specs.Agents.{spent}
use Rattle.heap_core_views.specs.Loading.{HasRoom}
use Rattle.heap_core_views.specs.Probing.{HasForms, HasShorts}
use Rattle.heap_core.specs.Core.{Core, core}
use Rattle.heap_core.specs.Events.{IsCore, IsSoundCore, LiveIn, view_at, stored, looked, exchanged, after_load_slot, after_take_slot}
use Rattle.heap_rule.proofs.ListLemmas.{at_index}
use Rattle.heap_rule.proofs.Steps.{sizes_are}
use Rattle.heap_rule.proofs.Possible.{possible_short, possible_slot}
use Rattle.heap_core.proofs.LoadSteps.{room_of}
use Rattle.heap_core.proofs.StateLemmas.{sound_of}

-- the start of a Flat that a word spells
flat_field : (w : ℕ) (a b c d : Bool) (wide : Bool) (start : ℕ) (fixed : Bool)
    → cond a (Flat (is_wide_word w) (first_field w) (is_fixed w)) (cond b (Cons (is_wide_word w) (first_field w) (second_field w))
    (cond c (Sliced (is_wide_word w) (first_field w) (second_field w)) (cond d (Thin (first_field w)) Unborn))) ≡ Flat wide start fixed
    → first_field w ≡ start
flat_field w true b c d wide start fixed e = cc
flat_field w false true c d wide start fixed e = absurd (cc)
flat_field w false false true d wide start fixed e = absurd (cc)
flat_field w false false false true wide start fixed e = absurd (cc)
flat_field w false false false false wide start fixed e = absurd (cc)

flat_range : (w : ℕ) (wide : Bool) (start : ℕ) (fixed : Bool) → form_of w ≡ Some (Flat wide start fixed) → start < 2 ^ 29
flat_range w wide start fixed e = let t = if_some (eqb (word_of (form_by_tag w)) w) (Some (form_by_tag w)) (Flat wide start fixed) e in
    let is : form_by_tag w ≡ Flat wide start fixed = (let u : Some (form_by_tag w) ≡ Some (Flat wide start fixed) = t.1 in cc) in
    subst (λ (x : ℕ). x < 2 ^ 29) (flat_field w (eqb (w % 8) 1) (eqb (w % 8) 2) (eqb (w % 8) 3) (eqb (w % 8) 4) wide start fixed is) (mod-lt (w / 32) (omega arith))

-- nothing comes after a fixed Flat
never_later : (wide : Bool) (start : ℕ) (f : Form) → IsLater (Flat wide start true) f → ⊥
never_later wide start f l = absurd (cc)

module _ (s : Core) (h : IsCore s) (j : ℕ) where
  module _ (v : View) (is : At s.views j v × (v.live ≡ true)) where
    whole : IsSoundCore s
    whole = sound_of s j (λ _. Unit {0}) h (v, is.0, is.1, tt)

    -- what a test of the live view asks
    pub has_room : HasRoom v
    has_room = room_of s.size s.agents s.words s.views whole j v is.0 is.1

    pub has_shorts : HasShorts v
    has_shorts = λ i us u. possible_short v ∣ (s.size, s.agents, s.words, s.views, j, whole, is.0, is.1) ∣₁ i us u

    pub few_slots : v.sizes.slots < 2 ^ 29
    few_slots = subst (λ (z : HeapSize). z.slots < 2 ^ 29) (sym (sizes_are s.size s.agents s.words s.views whole j v is.0 is.1)) whole.lawful.5

    pub has_forms : HasForms v
    has_forms = λ k i f a b. let fixed = possible_slot v ∣ (s.size, s.agents, s.words, s.views, j, whole, is.0, is.1) ∣₁ k i f a b in let o = (whole.knows j v is.0 is.1).of_forms i f b in
        let now : o.now ≡ Flat fixed.0 fixed.1 true = ⊎_elim (λ (e : f ≡ o.now). sym e ∙ fixed.2)
        (λ (l : IsLater f o.now). absurd (never_later fixed.0 fixed.1 o.now (subst (λ (y : Form). IsLater y o.now) fixed.2 l))) o.later in
        subst IsInRange (sym fixed.2) (flat_range (form s.size s.words i) fixed.0 fixed.1 true (o.decodes ∙ ap Some now))

  -- a word of a slot is an id plus 1, or 0
  word_small : IsSoundCore s → (k : ℕ) → k < s.size.slots → (x : ℕ) → slot s.size s.words k ≡ x → x < 2 ^ 32
  word_small g k inside zero e = omega arith
  word_small g k inside (suc i) e = let low = (g.slots k i inside (omega arith)).born.0 in let z = g.lawful.1 in omega arith

  module _ (P : View → Type 0) (k : ℕ) (t : LiveIn s.views j (λ v. (k < v.sizes.slots) × P v)) where
    sound : IsSoundCore s
    sound = sound_of s j (λ v. (k < v.sizes.slots) × P v) h t

    pub slot_inside : IsLawfulSize s.size × (k < s.size.slots) × (slot_at s.size k < length s.words)
    slot_inside = let inside : k < s.size.slots = subst (λ (z : HeapSize). k < z.slots)
        (sizes_are s.size s.agents s.words s.views sound j t.0 t.1 t.2) t.3.0 in let n = sound.counted.long in (sound.lawful, inside, omega arith)

    pub slot_small : (p : ℕ) → p ≡ slot_at s.size k → get_or s.words p 0 < 2 ^ 32
    slot_small p e = subst (λ (q : ℕ). get_or s.words q 0 < 2 ^ 32) (sym e) (word_small sound k slot_inside.1 (slot s.size s.words k) refl)

    pub slot_room : HasRoom (view_at s j)
    slot_room = subst HasRoom (sym (at_index s.views j t.0 spent t.1)) (room_of s.size s.agents s.words s.views sound j t.0 t.1 t.2)

  -- what a load of a slot leaves, and a claim of one
  pub load_became : (k p x : ℕ) (entry : Option (List ℕ)) (names : List ℕ) (w : View) (t : Core) → p ≡ slot_at s.size k → x ≡ get_or s.words
      p 0 → w ≡ learned (loaded_slot (view_at s j) k entry x) names → t ≡ looked s j w
      → (t ≡ after_load_slot s j k entry names) × (x ≡ get_or s.words (slot_at s.size k) 0)
  load_became k p x entry names w t place found is left = let there : x ≡ get_or s.words (slot_at s.size k) 0 = found ∙ ap (λ (q : ℕ). get_or s.words q 0) place in
      (left ∙ ap (looked s j) (is ∙ ap (λ (y : ℕ). learned (loaded_slot (view_at s j) k entry y) names) there), there)

  pub take_became : (k i p x n : ℕ) (names : List ℕ) (w : View) (t u : Core) → p ≡ slot_at s.size k → x ≡ get_or s.words p 0 → n ≡ cond
      (eqb x 0) (i + 1) x → w ≡ learned (took_slot (view_at s j) k i x) names → u ≡ looked s j w → t ≡ stored u p n
      → (t ≡ after_take_slot s j k i names) × (x ≡ get_or s.words (slot_at s.size k) 0)
  take_became k i p x n names w t u place found put is seen left = let there : x ≡ get_or s.words (slot_at s.size k) 0 = found ∙ ap (λ (q : ℕ). get_or s.words q 0) place in
      let new : n ≡ cond (eqb (get_or s.words (slot_at s.size k) 0) 0) (i + 1) (get_or s.words (slot_at s.size k) 0) = put ∙ ap (λ (y : ℕ). cond (eqb y 0) (i + 1) y) there in
      let same : w ≡ learned (took_slot (view_at s j) k i (get_or s.words (slot_at s.size k) 0)) names = is ∙ ap (λ (y : ℕ). learned (took_slot (view_at s j) k i y) names) there in
      (left ∙ ((λ q. stored (seen q) (place q) (new q)) ∙ (λ q. stored (looked s j (same q)) (slot_at s.size k) (exchanged s (slot_at s.size k) 0 (i + 1)))), there)
