-- `repeat` from its copies: when it throws, what it gives and what it uses.
use Rattle.std.proofs.Common.{◌≡◌, ℕ, zero, suc, ◌+◌, ◌*◌, ◌<◌, ◌≤◌, List, [], ◌∷◌, length, arith, refl, ap, sym, ◌∙◌}
use Rattle.std.specs.Prelude.{◌^◌, Bool, true, false, Option, Some, None}
use Rattle.std.specs.List.{repeat}
use Rattle.std.proofs.Math.Nat.{mul-le-mul_left}
use Rattle.js_number.specs.declared.Num.{Num}
use Rattle.js_store.specs.State.{State, NamesUnits, IsKnown, text}
use Rattle.js_store.specs.Faults.{Uses}
use Rattle.js_store.specs.declared.faults.StoreFault.{StoreFault}
use Rattle.js_texts.specs.declared.faults.Cause.TheVariants.{TooLong as Length}
use Rattle.js_store.proofs.Laws.{has_still, known_has, text_still}
use Rattle.js_methods.specs.Building.{is_count, copies, repeat_of, IsCountFault, repeat_used_ids, repeat_used_words}
use Rattle.js_methods.proofs.Copies.{length-copies}
use Rattle.js_methods.proofs.Uses.{uses_after}

none_repeated : (n : ℕ) (u : List ℕ) → length u ≡ 0 → u ≡ repeat n u
none_repeated zero [] h = refl
none_repeated zero (x ∷ xs) h = absurd (omega arith)
none_repeated (suc n) [] h = none_repeated n [] h
none_repeated (suc n) (x ∷ xs) h = absurd (omega arith)

by_count : (b : Bool) (m n limit : ℕ) → b ≡ true → m ≡ n → limit < n → IsCountFault b (Length m) limit n
by_count true m n limit h e l = (l, ap Length e)
by_count false m n limit h e l = absurd (cc)

module _ {F : Type 0} (a b : State F) (s n : ℕ) (count : Num) (known : IsKnown a s) (first : Uses a b None 0 0) (counts : (is_count count ≡ true) × (n ≡ copies count)) where
  whole_length : length (repeat_of (text a s) count) ≡ n * length (text a s)
  whole_length = ap (λ k. length (repeat k (text a s))) (sym counts.1) ∙ length-copies n (text a s)

  pub too_long : (m : ℕ) → m ≡ length (text a s) * n → b.limit < m → IsCountFault (is_count count) (Length m) a.limit (length (repeat_of (text a s) count))
  too_long m e l = by_count (is_count count) m (length (repeat_of (text a s) count)) a.limit counts.0 (omega (arith, e, whole_length)) (omega (arith, e, whole_length, first.step.grows.limit))

  pub short_enough : (m : ℕ) → m ≡ length (text a s) * n → m ≤ b.limit → (is_count count ≡ true) × (length (repeat_of (text a s) count) ≤ a.limit)
  short_enough m e l = (counts.0, omega (arith, e, whole_length, first.step.grows.limit))

  pub copies_room : (m : ℕ) → m ≡ length (text a s) * n → m ≤ b.limit → length (repeat n (text b s)) ≤ b.limit
  copies_room m e l = omega (arith, e, length-copies n (text b s), ap (λ (u : List ℕ). n * length u) (text_still first.step.grows s known))

  pub itself : length (text a s) ≡ 0 → NamesUnits b s (repeat_of (text a s) count)
  itself h = has_still first.step.grows s (text a s) (known_has a s known) ∙ ap Some (none_repeated (copies count) (text a s) h)

  pub copies_use : (c : State F) (f : Option StoreFault) (m : ℕ) → m ≡ length (text a s) * n → m ≤ b.limit → b.limit ≤ 536870888 → 1 ≤
      length (text a s) → ((k : ℕ) → n < 2 ^ (k + 1) → Uses b c f (2 * k) (6 * k)) → Uses a c f repeat_used_ids repeat_used_words
  copies_use c f m e l h some t =
      let few : n * 1 ≤ n * length (text a s) = mul-le-mul_left n some in
      uses_after first (t 28 (omega (arith, few, e, l, h))) (omega arith) (omega arith)
