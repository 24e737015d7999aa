-- A pad from its filling: its length, what it gives and what it uses.
use Rattle.std.proofs.Common.{◌≡◌, ℕ, ◌+◌, ◌-◌, ◌*◌, ◌%◌, ◌<◌, ◌≤◌, List, [], ◌∷◌, ◌++◌, length, arith, refl, ap, sym, subst, ◌∙◌}
use Rattle.std.specs.Prelude.{Option, Some, None}
use Rattle.std.specs.List.{repeat}
use Rattle.std.proofs.lemmas.List.{length-take}
use Rattle.js_store.specs.State.{State, NamesUnits, IsKnown, text}
use Rattle.js_store.specs.Faults.{Uses}
use Rattle.js_store.specs.Rows.{wide_words}
use Rattle.js_store.specs.declared.faults.StoreFault.{StoreFault}
use Rattle.js_store.proofs.Laws.{has_text, text_still, known_still}
use Rattle.js_methods.specs.Building.{CutsFiller, ReadsBoth, filling, pad_start_of, pad_end_of, pad_used_ids, pad_used_words}
use Rattle.js_methods.proofs.Copies.{length-copies}
use Rattle.js_methods.proofs.Fill.{length-filling}
use Rattle.js_methods.proofs.Uses.{uses_after}

-- an empty filler fills nothing
none_filled : (n : ℕ) (f : List ℕ) → length f ≡ 0 → length (filling f n) ≡ 0
none_filled n f h =
    let none : length (repeat n f) ≡ n * 0 = length-copies n f ∙ ap (λ k. n * k) h in
    omega (arith, length-take n (repeat n f), none)

pub padded_is : (n most padded : ℕ) (f : List ℕ) → (1 ≤ length f → padded ≡ n + (most - n)) → (length f ≡ 0 → padded ≡ n) → padded ≡ n + length (filling f (most - n))
padded_is n most padded [] full empty = omega (arith, empty refl, none_filled (most - n) [] refl)
padded_is n most padded (x ∷ xs) full empty = omega (arith, full (omega arith), length-filling (most - n) (x ∷ xs) (omega arith))

filled_by : (n : ℕ) (f : List ℕ) → 1 ≤ length (filling f n) → 1 ≤ length f
filled_by n [] h = absurd (omega (arith, none_filled n [] refl))
filled_by n (x ∷ xs) h = omega arith

-- where both strings are read, some units are missing, and all are few
module _ (most n room : ℕ) (f : List ℕ) (is : room ≡ length (filling f (most - n))) (reads : ReadsBoth most n (length f)) where
  missing_units : room ≡ most - n
  missing_units = is ∙ length-filling (most - n) f reads.2

  pub some_missing : room ≡ 0 → ⊥
  some_missing none = omega (arith, missing_units, none, reads.1)

  pub few_units : (most ≤ 32) × (most < room + 13)
  few_units = (reads.0, omega (arith, missing_units, reads.1, reads.3))

module _ {F : Type 0} (a b : State F) (s t most room : ℕ) (known : IsKnown a s) (filler_known : IsKnown a t) (first : Uses a
    b None 0 0) (is : room ≡ length (filling (text a t) (most - length (text a s)))) (some : 1 ≤ room) where
  kept : text b t ≡ text a t
  kept = text_still first.step.grows t filler_known

  has_units : 1 ≤ length (text a t)
  has_units = filled_by (most - length (text a s)) (text a t) (omega (arith, is, some))

  pub filler_units : 1 ≤ length (text b t)
  filler_units = omega (arith, has_units, ap (λ (v : List ℕ). length v) kept)

  room_is : room ≡ most - length (text a s)
  room_is = is ∙ length-filling (most - length (text a s)) (text a t) has_units

  pub filler_cut : CutsFiller (most - length (text a s)) (length (text a t)) → 1 ≤ room % length (text b t)
  filler_cut h = subst (λ n. 1 ≤ n) (sym (ap (λ (v : List ℕ). room % length v) kept ∙ ap (λ n. n % length (text a t)) room_is)) h.1

  same_filling : filling (text b t) room ≡ filling (text a t) (most - length (text a s))
  same_filling = ap (λ (v : List ℕ). filling v room) kept ∙ ap (filling (text a t)) room_is

  module _ (d : State F) (x : ℕ) (fill : NamesUnits d x (filling (text b t) room)) (second : Uses b d None 64 (2 * wide_words (length (text b t)) + 256)) where
    filled : text d x ≡ filling (text a t) (most - length (text a s))
    filled = has_text d x (filling (text b t) room) fill ∙ same_filling

    same : text d s ≡ text a s
    same = text_still second.step.grows s (known_still first.step.grows s known) ∙ text_still first.step.grows s known

    pub start_value : (e : State F) (r : ℕ) → NamesUnits e r (text d x ++ text d s) → NamesUnits e r (pad_start_of (text a s) most (text a t))
    start_value e r k = k ∙ ap Some (ap (λ (v : List ℕ). v ++ text d s) filled ∙ ap (λ (v : List ℕ). filling (text a t) (most - length (text a s)) ++ v) same)

    pub end_value : (e : State F) (r : ℕ) → NamesUnits e r (text d s ++ text d x) → NamesUnits e r (pad_end_of (text a s) most (text a t))
    end_value e r k = k ∙ ap Some (ap (λ (v : List ℕ). text d s ++ v) filled ∙ ap (λ (v : List ℕ). v ++ filling (text a t) (most - length (text a s))) same)

    pub pad_use : (e : State F) (f : Option StoreFault) → Uses d e f 1 3 → Uses a e f pad_used_ids (pad_used_words (length (text a t)))
    pad_use e f used =
        let front : Uses a d None 64 (2 * wide_words (length (text a t)) + 256) = uses_after first second (omega arith) (omega (arith, ap (λ (v : List ℕ). length v) kept)) in
        uses_after front used (omega arith) (omega arith)
