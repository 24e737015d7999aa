-- Strings with a separator between two.
use Rattle.std.proofs.Common.{arith, ◌≡◌, ℕ, ◌+◌, ◌-◌, ◌<◌, List, [], ◌∷◌, ◌++◌, ap, sym, ◌∙◌, append_assoc, length-append, length, get_or, drop}
use Rattle.js_store.specs.State.{State, Grows, text}
use Rattle.js_texts.specs.Texts.{AllKnown, known_texts}
use Rattle.js_texts.proofs.Lists.{drop_at, texts_still}
use Rattle.js_texts.specs.Joined.{joined, with_each}

pub joined_length : (sep : List ℕ) (us : List (List ℕ)) → length (joined sep us) ≡ length (with_each sep us) - length sep
joined_length sep [] = omega arith
joined_length sep (u ∷ us) = omega (arith, length-append u (with_each sep us), length-append (sep ++ u) (with_each sep us), length-append sep u)

-- a separator and a text, in front of what is left
pub each_turn : (sep l m n t w : List ℕ) → m ≡ l ++ sep → n ≡ m ++ t → n ++ w ≡ l ++ (sep ++ t ++ w)
each_turn sep l m n t w p q =
    ap (λ z. z ++ w) q ∙ append_assoc m t w ∙ ap (λ z. z ++ (t ++ w)) p ∙ append_assoc l sep (t ++ w) ∙ ap (λ z. l ++ z) (sym (append_assoc sep t w))

module _ {F R : Type 0} (name : R → ℕ) (sep : List ℕ) where
  pub each_front : (a : State F) (rs : List R) (i : ℕ) (r : R) → i < length rs → r ≡ get_or rs i r → with_each sep
      (known_texts a name (drop i rs)) ≡ sep ++ text a (name r) ++ with_each sep (known_texts a name (drop (i + 1) rs))
  each_front a rs i r l p = ap (λ q. with_each sep (known_texts a name q)) (drop_at rs i r l p)

  pub each_length : (a : State F) (rs : List R) (i : ℕ) (r : R) → i < length rs → r ≡ get_or rs i r → length
      (with_each sep (known_texts a name (drop i rs))) ≡ length sep + length (text a (name r)) + length (with_each sep (known_texts a name (drop (i + 1) rs)))
  each_length a rs i r l p = let front = ap length (each_front a rs i r l p) in omega
      (arith, front, length-append (sep ++ text a (name r)) (with_each sep (known_texts a name (drop (i + 1) rs))), length-append sep (text a (name r)))

  joined_front : (a : State F) (rs : List R) (r : R) → 0 < length rs → r ≡ get_or rs 0 r → joined sep (known_texts a name rs) ≡ text a (name r) ++ with_each sep (known_texts a name (drop 1 rs))
  joined_front a rs r l p = ap (λ q. joined sep (known_texts a name q)) (drop_at rs 0 r l p)

  all_known_drop : (a : State F) (rs : List R) → AllKnown a name rs → AllKnown a name (drop 1 rs)
  all_known_drop a [] k = tt
  all_known_drop a (r ∷ rs) k = k.1

  -- the first string, and then the others
  pub joined_turn : (a b : State F) (rs : List R) (r : R) (l m n : List ℕ) → 0 < length rs → r ≡ get_or rs 0 r → Grows a b → AllKnown a name
      rs → m ≡ l ++ text a (name r) → n ≡ m ++ with_each sep (known_texts b name (drop 1 rs)) → n ≡ l ++ joined sep (known_texts a name rs)
  joined_turn a b rs r l m n h p g k e q =
      let same : known_texts b name (drop 1 rs) ≡ known_texts a name (drop 1 rs) = texts_still name a b (drop 1 rs) g (all_known_drop a rs k) in
      q ∙ ap (λ o. m ++ with_each sep o) same
      ∙ ap (λ o. o ++ with_each sep (known_texts a name (drop 1 rs))) e
      ∙ append_assoc l (text a (name r)) (with_each sep (known_texts a name (drop 1 rs)))
      ∙ ap (λ o. l ++ o) (sym (joined_front a rs r h p))
