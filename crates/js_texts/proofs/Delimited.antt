-- Texts between separators, one after another.
use Rattle.std.proofs.Common.{arith, ◌≡◌, ℕ, ◌+◌, ◌<◌, List, [], ◌∷◌, ◌++◌, refl, ap, sym, ◌∙◌, append_assoc, length-append, length, get_or, take, drop}
use Rattle.js_store.specs.State.{State, Grows, text}
use Rattle.js_store.proofs.Laws.{text_still}
use Rattle.js_texts.specs.Texts.{AllKnown, known_texts}
use Rattle.js_texts.proofs.Lists.{drop_at, every_drop, map_same}
use Rattle.js_texts.specs.Delimited.{rest_of, delimited}

-- what stands in front stays there over two calls
pub kept_trans : (a b c : List ℕ) → take (length a) b ≡ a → take (length b) c ≡ b → take (length a) c ≡ a
kept_trans [] b c h k = refl
kept_trans (x ∷ a) [] c h k = cc
kept_trans (x ∷ a) (y ∷ b) [] h k = cc
kept_trans (x ∷ a) (y ∷ b) (z ∷ c) h k =
    let p : take (length a) b ≡ a = cc in
    let q : take (length b) c ≡ b = cc in
    let r : take (length a) c ≡ a = kept_trans a b c p q in
    cc

module _ (f : List ℕ → List ℕ) (sep end : ℕ) where
  -- a separator and a text, in front of what is left
  pub text_turn : (l m n t w : List ℕ) → m ≡ l ++ sep ∷ [] → n ≡ m ++ t → n ++ w ≡ l ++ (sep ∷ t ++ w)
  text_turn l m n t w p q = ap (λ z. z ++ w) q ∙ append_assoc m t w ∙ ap (λ z. z ++ (t ++ w)) p ∙ append_assoc l (sep ∷ []) (t ++ w)

  module _ {F R : Type 0} (name : R → ℕ) where
    pub rest_front : (a : State F) (rs : List R) (i : ℕ) (r : R) → i < length rs → r ≡ get_or rs i r → rest_of f sep end
        (known_texts a name (drop i rs)) ≡ sep ∷ f (text a (name r)) ++ rest_of f sep end (known_texts a name (drop (i + 1) rs))
    rest_front a rs i r l p = ap (λ q. rest_of f sep end (known_texts a name q)) (drop_at rs i r l p)

    pub rest_length : (a : State F) (rs : List R) (i : ℕ) (r : R) → i < length rs → r ≡ get_or rs i r → length
        (rest_of f sep end (known_texts a name (drop i rs))) ≡ 1 + (length (f (text a (name r))) + length
        (rest_of f sep end (known_texts a name (drop (i + 1) rs))))
    rest_length a rs i r l p = let front = ap length (rest_front a rs i r l p) in omega (arith, front, length-append (f (text a (name r))) (rest_of f sep end (known_texts a name (drop (i + 1) rs))))

    joined_front : (a : State F) (rs : List R) (r : R) → 0 < length rs → r ≡ get_or rs 0 r → delimited f sep end (known_texts a name rs) ≡ f
        (text a (name r)) ++ rest_of f sep end (known_texts a name (drop 1 rs))
    joined_front a rs r l p = ap (λ q. delimited f sep end (known_texts a name q)) (drop_at rs 0 r l p)

    -- the first string, and then the others
    pub joined_turn : (a b : State F) (rs : List R) (r : R) (l m n : List ℕ) → 0 < length rs → r ≡ get_or rs 0 r → Grows a b → AllKnown a
        name rs → m ≡ l ++ f (text a (name r)) → n ≡ m ++ rest_of f sep end (known_texts b name (drop 1 rs)) → n ≡ l ++ delimited f sep end
        (known_texts a name rs)
    joined_turn a b rs r l m n h p g k e q =
        let same : known_texts b name (drop 1 rs) ≡ known_texts a name (drop 1 rs) = map_same (λ o j. text_still g (name o) j) (drop 1 rs) (every_drop _ rs 1 k) in
        q ∙ ap (λ o. m ++ rest_of f sep end o) same
        ∙ ap (λ o. o ++ rest_of f sep end (known_texts a name (drop 1 rs))) e
        ∙ append_assoc l (f (text a (name r))) (rest_of f sep end (known_texts a name (drop 1 rs)))
        ∙ ap (λ o. l ++ o) (sym (joined_front a rs r h p))
