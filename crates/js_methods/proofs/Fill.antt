-- A filler repeated and cut, as whole copies and a front of it.
use Rattle.std.proofs.Common.{◌≡◌, ℕ, zero, suc, ◌+◌, ◌-◌, ◌*◌, ◌<◌, ◌≤◌, List, ◌++◌, length, take, arith, refl, ap, sym, ◌∙◌, length-append, append-nil}
use Rattle.std.specs.Prelude.{◌/◌, ◌%◌, ◌^◌, Option, Some, None}
use Rattle.std.specs.List.{repeat}
use Rattle.std.proofs.lemmas.List.{take-append-le, length-take-le}
use Rattle.std.proofs.Math.Seq.{take-append-add}
use Rattle.std.proofs.Math.Nat.{div-add-mod, div-le_self, mul-le-mul_left, mod-lt}
use Rattle.js_store.specs.State.{State, NamesUnits, IsKnown, text}
use Rattle.js_store.specs.Faults.{Uses}
use Rattle.js_store.specs.Rows.{wide_words}
use Rattle.js_store.specs.declared.faults.StoreFault.{StoreFault}
use Rattle.js_store.proofs.Laws.{has_text, has_still, text_still, known_still}
use Rattle.js_methods.specs.Building.{filling}
use Rattle.js_methods.proofs.Copies.{repeat-add, length-copies}
use Rattle.js_methods.proofs.Uses.{uses_within, uses_after}

pub take_front : (m r : ℕ) (f : List ℕ) → r ≤ length f → (m ≡ 0 → r ≡ 0) → take r (repeat m f) ≡ take r f
take_front zero r f h z = ap (λ k. take k (repeat 0 f)) (z refl) ∙ sym (ap (λ k. take k f) (z refl))
take_front (suc m) r f h z = take-append-le r f (repeat m f) h

pub long_enough : (n : ℕ) (f : List ℕ) → 1 ≤ length f → n ≤ length (repeat n f)
long_enough n f h = let m : n * 1 ≤ n * length f = mul-le-mul_left n h in omega (arith, m, length-copies n f)

pub length-filling : (n : ℕ) (f : List ℕ) → 1 ≤ length f → length (filling f n) ≡ n
length-filling n f h = length-take-le n (repeat n f) (long_enough n f h)

fill_by : (n q r : ℕ) (f : List ℕ) → n ≡ q * length f + r → r ≤ length f → q * 1 ≤ q * length f → filling f n ≡ repeat q f ++ take r f
fill_by n q r f e h m =
    let rest : q + (n - q) ≡ n = omega (arith, e, m) in
    let place : n ≡ length (repeat q f) + r = omega (arith, e, length-copies q f) in
    ap (λ k. take n (repeat k f)) (sym rest) ∙ ap (take n) (sym (repeat-add q (n - q) f)) ∙ ap (λ k. take k (repeat q f ++ repeat (n - q) f)) place ∙
    take-append-add (repeat q f) (repeat (n - q) f) r ∙ ap (λ v. repeat q f ++ v) (take_front (n - q) r f h (λ z. omega (arith, e, m, z)))

module _ {F : Type 0} (a b : State F) (s n size : ℕ) (known : IsKnown a s) (is : size ≡ length (text a s)) (some : 1 ≤ length (text a s)) (first : Uses a b None 0 0) where
  remainder : n % size < size
  remainder = mod-lt n (omega (arith, is, some))

  fill : filling (text a s) n ≡ repeat (n / size) (text a s) ++ take (n % size) (text a s)
  fill = fill_by n (n / size) (n % size) (text a s) (omega (arith, is, div-add-mod n size, ap (λ k. n / size * k) is)) (omega (arith, is, remainder)) (mul-le-mul_left (n / size) some)

  kept : text b s ≡ text a s
  kept = text_still first.step.grows s known

  lengths : length (repeat (n / size) (text a s)) + length (take (n % size) (text a s)) ≡ n
  lengths = omega (arith, length-append (repeat (n / size) (text a s)) (take (n % size) (text a s)), ap (λ (v : List ℕ). length v) fill, length-filling n (text a s) some)

  repeats_length : length (repeat (n / size) (text b s)) ≤ n
  repeats_length = omega (arith, lengths, ap (λ (v : List ℕ). length (repeat (n / size) v)) kept)

  pub front_value : (c : State F) (r : ℕ) → n / size ≡ 0 → NamesUnits c r (take (n % size) (text b s)) → NamesUnits c r (filling (text a s) n)
  front_value c r z k = k ∙ ap Some (ap (λ (v : List ℕ). take (n % size) v) kept ∙ sym (fill ∙ ap (λ q. repeat q (text a s) ++ take (n % size) (text a s)) z))

  pub repeats_room : n ≤ a.limit → length (repeat (n / size) (text b s)) ≤ b.limit
  repeats_room h = omega (arith, repeats_length, first.step.grows.limit)

  pub repeats_value : (c : State F) (r : ℕ) → n % size ≡ 0 → NamesUnits c r (repeat (n / size) (text b s)) → NamesUnits c r (filling (text a s) n)
  repeats_value c r z k =
      let none : repeat (n / size) (text a s) ++ take (n % size) (text a s) ≡ repeat (n / size) (text a s) = ap
      (λ i. repeat (n / size) (text a s) ++ take i (text a s)) z ∙ append-nil (repeat (n / size) (text a s)) in
      k ∙ ap Some (ap (λ (v : List ℕ). repeat (n / size) v) kept ∙ sym (fill ∙ none))

  pub repeats_use : (c : State F) (t : Option StoreFault) → n < 4294967296 → ((k : ℕ) → n / size < 2 ^ (k + 1) → Uses b c t (2 * k) (6 * k)) → Uses a c t 62 186
  repeats_use c t h used = uses_after first (used 31 (omega (arith, h, div-le_self n size))) (omega arith) (omega arith)

  pub repeats_within : (c : State F) (t : Option StoreFault) → Uses a c t 62 186 → Uses a c t 64 (2 * wide_words (length (text a s)) + 256)
  repeats_within c t used = uses_within used (omega arith) (omega arith)

  -- the front of the filler behind the copies
  module _ (c : State F) (r : ℕ) (copies : NamesUnits c r (repeat (n / size) (text b s))) (second : Uses a c None 62 186) where
    pub front_known : IsKnown c s
    front_known = known_still second.step.grows s known

    again : text c s ≡ text a s
    again = text_still second.step.grows s known

    pub front_within : n % size ≤ length (text c s)
    front_within = omega (arith, remainder, is, ap (λ (v : List ℕ). length v) again)

    pub front_use : (d : State F) (t : Option StoreFault) → Uses c d t 1 (2 * wide_words (length (text c s)) + 3) → Uses a d t 63 (2 * wide_words (length (text a s)) + 189)
    front_use d t used = uses_after second used (omega arith) (omega (arith, ap (λ (v : List ℕ). length v) again))

    pub front_within_use : (d : State F) (t : Option StoreFault) → Uses a d t 63 (2 * wide_words (length (text a s)) + 189) → Uses a d t 64 (2 * wide_words (length (text a s)) + 256)
    front_within_use d t used = uses_within used (omega arith) (omega arith)

    module _ (d : State F) (p : ℕ) (front : NamesUnits d p (take (n % size) (text c s))) (third : Uses c d None 1 (2 * wide_words (length (text c s)) + 3)) where
      both : text d r ++ text d p ≡ filling (text a s) n
      both =
          ap (λ (v : List ℕ). v ++ text d p) (has_text d r (repeat (n / size) (text b s)) (has_still third.step.grows r (repeat (n / size) (text b s)) copies)) ∙
          ap (λ (v : List ℕ). repeat (n / size) (text b s) ++ v) (has_text d p (take (n % size) (text c s)) front) ∙
          ap (λ (v : List ℕ). repeat (n / size) v ++ take (n % size) (text c s)) kept ∙
          ap (λ (v : List ℕ). repeat (n / size) (text a s) ++ take (n % size) v) again ∙ sym fill

      whole : length (text d r) + length (text d p) ≡ n
      whole = omega (arith, length-append (text d r) (text d p), ap (λ (v : List ℕ). length v) both, length-filling n (text a s) some)

      pub last_room : n ≤ a.limit → length (text d r) + length (text d p) ≤ d.limit
      last_room h = omega (arith, whole, second.step.grows.limit, third.step.grows.limit)

      pub last_value : (e : State F) (x : ℕ) → NamesUnits e x (text d r ++ text d p) → NamesUnits e x (filling (text a s) n)
      last_value e x k = k ∙ ap Some both

      pub last_use : (e : State F) (t : Option StoreFault) → Uses d e t 1 3 → Uses a e t 64 (2 * wide_words (length (text a s)) + 256)
      last_use e t used = uses_after (front_use d None third) used (omega arith) (omega arith)
