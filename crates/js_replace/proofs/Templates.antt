-- What stands for a template, piece by piece.
use Rattle.std.proofs.Common.{◌≡◌, ℕ, ◌+◌, ◌*◌, ◌<◌, ◌≤◌, List, [], ◌∷◌, ◌++◌, length, length-append, append_assoc, append-nil, arith, ap, sym, ◌∙◌, drop}
use Rattle.std.specs.Prelude.{Option, Some, None, slice_get, unwrap_or}
use Rattle.std.proofs.Math.Nat.{add-mul, one-mul}
use Rattle.std.proofs.lemmas.Nat.{mul-le}
use Rattle.js_replace.specs.Substitution.{substituted}
use Rattle.js_replace.specs.Fronts.{front_reference, by_front}
use Rattle.js_replace.specs.declared.pieces.Piece.{Piece}
use Rattle.js_replace.specs.Pieces.{piece_text}

module _ (t s u : List ℕ) (at : ℕ) (w : List ℕ) where
  -- the first piece, and then the rest
  pub length_turn : (p : Piece) → substituted t u at w ≡ piece_text p u at w ++ substituted s u at w → length (substituted t u at w) ≡ length (piece_text p u at w) + length (substituted s u at w)
  length_turn p h = ap length h ∙ length-append (piece_text p u at w) (substituted s u at w)

  pub push_turn : (p : Piece) (l m : List ℕ) → substituted t u at w ≡ piece_text p u at w ++ substituted s u at w → m ≡ l ++ piece_text p u at w → m ++ substituted s u at w ≡ l ++ substituted t u at w
  push_turn p l m h e = ap (λ q. q ++ substituted s u at w) e ∙ append_assoc l (piece_text p u at w) (substituted s u at w) ∙ ap (λ q. l ++ q) (sym h)

pub length_end : (t u : List ℕ) (at : ℕ) (w : List ℕ) → substituted t u at w ≡ [] → length (substituted t u at w) ≡ 0
length_end t u at w h = ap length h

pub push_end : (t u : List ℕ) (at : ℕ) (w l : List ℕ) → substituted t u at w ≡ [] → l ++ substituted t u at w ≡ l
push_end t u at w l h = ap (λ q. l ++ q) h ∙ append-nil l

by_none : (o : Option (List ℕ)) (c : ℕ) (a b : List ℕ) → o ≡ None → by_front o c a b ≡ c ∷ b
by_none o c a b h = ap (λ q. by_front q c a b) h

by_some : (o : Option (List ℕ)) (c : ℕ) (a b r : List ℕ) → o ≡ Some r → by_front o c a b ≡ r ++ a
by_some o c a b r h = ap (λ q. by_front q c a b) h

some_same : (a b : ℕ) → Some a ≡ Some b → a ≡ b
some_same a b h = ap (λ o. unwrap_or o 0) h

-- what is left behind the first unit, or behind the first two
module _ (u : List ℕ) (at : ℕ) (w : List ℕ) where
  pub plain_left : (t s : List ℕ) (c d : ℕ) → s ≡ drop 1 t → Some c ≡ slice_get t 0 → Some d ≡ slice_get s 0 → front_reference c d u at w ≡ None → substituted t u at w ≡ c ∷ substituted s u at w
  plain_left [] s c d e h k n = absurd (cc)
  plain_left (x ∷ []) s c d e h k n = let none : slice_get s 0 ≡ None = ap (λ q. slice_get q 0) e in absurd (cc)
  plain_left (x ∷ y ∷ t) s c d e h k n =
      let one : c ≡ x = some_same c x h in
      let two : d ≡ y = some_same d y (k ∙ ap (λ q. slice_get q 0) e) in
      let none : front_reference x y u at w ≡ None = ap (λ q. front_reference q y u at w) (sym one) ∙ ap (λ q. front_reference c q u at w) (sym two) ∙ n in
      by_none (front_reference x y u at w) x (substituted t u at w) (substituted (y ∷ t) u at w) none
      ∙ ap (λ q. q ∷ substituted (y ∷ t) u at w) (sym one)
      ∙ ap (λ q. c ∷ substituted q u at w) (sym e)

  pub reference_left : (t s v : List ℕ) (c d : ℕ) (r : List ℕ) → s ≡ drop 1 t → v ≡ drop 1 s → Some c ≡ slice_get t 0 → Some d ≡ slice_get s
      0 → front_reference c d u at w ≡ Some r → substituted t u at w ≡ r ++ substituted v u at w
  reference_left [] s v c d r e f h k n = absurd (cc)
  reference_left (x ∷ []) s v c d r e f h k n = let none : slice_get s 0 ≡ None = ap (λ q. slice_get q 0) e in absurd (cc)
  reference_left (x ∷ y ∷ t) s v c d r e f h k n =
      let one : c ≡ x = some_same c x h in
      let two : d ≡ y = some_same d y (k ∙ ap (λ q. slice_get q 0) e) in
      let some : front_reference x y u at w ≡ Some r = ap (λ q. front_reference q y u at w) (sym one) ∙ ap (λ q. front_reference c q u at w) (sym two) ∙ n in
      let rest : v ≡ t = f ∙ ap (drop 1) e in
      by_some (front_reference x y u at w) x (substituted t u at w) (substituted (y ∷ t) u at w) r some
      ∙ ap (λ q. r ++ substituted q u at w) (sym rest)

pub one_more : (n m : ℕ) → (n + 1) * m ≡ n * m + m
one_more n m = add-mul n 1 m ∙ ap (λ k. n * m + k) (one-mul m)

-- so many pieces of so many units
pub product : (n m : ℕ) → n ≤ 536870888 → m < 4294967296 → n * m ≤ n * 4294967296
product n m h k = mul-le n m n 4294967296 (omega arith) (omega (arith, k))
