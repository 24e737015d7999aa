-- What a language begins with, by its first token.
use Rattle.std.proofs.Common.{◌≡◌, ℕ, ◌<◌, ◌≤◌, List, [], ◌∷◌, ◌++◌, length, Bool, true, false, nat_lt, Option, Some, None, refl, sym, ap, ◌∙◌, subst, arith, append_assoc}
use Rattle.std.proofs.lemmas.Bool.Decides.{nat_tests}
use Rattle.parse_syntax.specs.Lang.{Lang, One, one, Then, both, Mapped, mapped, Either, left, right, if_room}
use Rattle.parse_syntax.specs.Reader.{heads}
use Rattle.parse_syntax.proofs.Laws.{Holds}
use Rattle.parse_syntax.proofs.Wider.{Begins, Starts, one_starts, then_starts, head_gives, is_some_of}
use Rattle.std.specs.Prelude.{is_some}

module _ {T : Type 0} where
  -- a token that has a value is the first one of its kind

  pub one_heads : {A : Type 0} (v : T → Option A) (ts : List T) (x : A) (rest : List T) → One v ts x → heads v (ts ++ rest) ≡ true
  one_heads v _ _ rest (one t x h) = is_some_of (v t) x h

  pub then_heads : {A B C : Type 0} (v : T → Option A) {f : A → B → C} {M : Lang T B} (ts : List T) (x : C) (rest : List T) → Then f (One v) M ts x → heads v (ts ++ rest) ≡ true
  then_heads v _ _ rest (both a b x y ha hb) = rw (append_assoc a b rest) (one_heads v a x (b ++ rest) ha)

  pub mapped_heads : {A B : Type 0} (v : T → Option A) {f : A → B} (ts : List T) (x : B) (rest : List T) → Mapped f (One v) ts x → heads v (ts ++ rest) ≡ true
  mapped_heads v _ _ rest (mapped a x h) = one_heads v a x rest h

  pub then_some : {A B C : Type 0} (v : T → Option A) {f : A → B → C} {M : Lang T B} (ts : List T) (x : C) → Then f (One v) M ts x → 0 < length ts
  then_some v _ _ (both _ b x y (one t x2 e) hb) = omega arith

  pub begins_length : (test : T → Bool) (ts : List T) → Begins test ts → 0 < length ts
  begins_length test [] h = absurd h
  begins_length test (t ∷ ts) h = omega arith

  pub either_lacks : {A B : Type 0} (v : T → Option A) {L M : Lang T B} → ((ts : List T) (x : B) (rest : List T) → L ts x → heads v
      (ts ++ rest) ≡ false) → ((ts : List T) (x : B) (rest : List T) → M ts x → heads v
      (ts ++ rest) ≡ false) → (ts : List T) (x : B) (rest : List T) → Either L M ts x → heads v (ts ++ rest) ≡ false
  either_lacks v l m _ _ rest (left a x h) = l a x rest h
  either_lacks v l m _ _ rest (right a x h) = m a x rest h

  -- where there is room

  pub room_of : {A : Type 0} (room : Bool) (L : Lang T A) (ts : List T) (x : A) → if_room room L ts x → L ts x
  room_of true L ts x h = h
  room_of false L ts x h = absurd h

  pub in_room : {A : Type 0} (room : Bool) (L : Lang T A) → room ≡ true → (ts : List T) (x : A) → L ts x → if_room room L ts x
  in_room room L e ts x h = subst (λ b. if_room b L ts x) (sym e) h

  -- what a word that opens goes on with where there is one place more
  pub deeper : {A B C : Type 0} (f : A → B → C) (v : T → Option A) {L : Lang T B} → Holds L → (t : T) (y : A) → v t ≡ Some y → (tail : List T) × (x : C) × Then f (One v) L (t ∷ tail) x
  deeper f v m t y e = (m.tokens, f y m.value, both (t ∷ []) m.tokens y m.value (one t y e) m.spells)

-- tokens are told apart by a number that each of them has

module _ {T : Type 0} (class : T → ℕ) where
  -- all tokens with such a value are of one class
  pub record IsOf {A : Type 0} (v : T → Option A) (n : ℕ) : Type 0 where
    pub is : (t : T) (x : A) → v t ≡ Some x → class t ≡ n

  -- over a class
  abbrev pub over : ℕ → T → Bool
  over k t = nat_lt k (class t)

  -- of one class alone
  pub apart : {A B : Type 0} (v : T → Option A) (w : T → Option B) (n m : ℕ) → IsOf v n → IsOf w m → (n ≡ m → ⊥) → (t : T) (y : B) → w t ≡ Some y → is_some (v t) ≡ false
  apart v w n m iv iw d t y e = go (v t) refl
    where
      go : (o : Option _) → v t ≡ o → is_some o ≡ false
      go None h = refl
      go (Some x) h = absurd (d (sym (iv.is t x h) ∙ iw.is t y e))

  pub one_lacks : {A B : Type 0} {v : T → Option A} {w : T → Option B} {n m : ℕ} → IsOf v n → IsOf w m → (n ≡ m → ⊥) → (ts : List T) (x : B) (rest : List T) → One w ts x → heads v (ts ++ rest) ≡ false
  one_lacks {v = v} {w = w} {n = n} {m = m} iv iw d _ _ rest (one t x h) = apart v w n m iv iw d t x h

  pub then_lacks : {A B C D : Type 0} {v : T → Option A} {w : T → Option B} {f : B → C → D} {M : Lang T C} {n m : ℕ} → IsOf v n → IsOf w m →
      (n ≡ m → ⊥) → (ts : List T) (x : D) (rest : List T) → Then f (One w) M ts x → heads v (ts ++ rest) ≡ false
  then_lacks iv iw d _ _ rest (both a b x y ha hb) = rw (append_assoc a b rest) (one_lacks iv iw d a x (b ++ rest) ha)

  -- what is over a class has no token of that class
  pub none_over : {A : Type 0} (v : T → Option A) (n k : ℕ) → IsOf v n → n ≤ k → (t : T) (s : List T) → over k t ≡ true → heads v (t ∷ s) ≡ false
  none_over v n k i le t s e = go (v t) refl
    where
      go : (o : Option _) → v t ≡ o → is_some o ≡ false
      go None h = refl
      go (Some x) h = absurd (let c : class t ≡ n = i.is t x h in less_no (class t) c e)
        where
          less_no : (m : ℕ) → m ≡ n → nat_lt k m ≡ true → ⊥
          less_no m c e = grind (arith, nat_tests)

  pub lacks : {A B : Type 0} (v : T → Option A) (n k : ℕ) → IsOf v n → n ≤ k → {L : Lang T B} → Starts L (over k) → (ts : List T) (x : B) (rest : List T) → L ts x → heads v (ts ++ rest) ≡ false
  lacks v n k i le st ts x rest h = head_gives (over k) (heads v) false (λ t s q. none_over v n k i le t s q) ts rest (st.by ts x h)

  -- what begins with a token of a class
  pub one_over : {A : Type 0} (v : T → Option A) (n k : ℕ) → IsOf v n → nat_lt k n ≡ true → Starts (One v) (over k)
  one_over v n k i lt = one_starts v (over k) (λ t x e. ap (nat_lt k) (i.is t x e) ∙ lt)

  pub first_over : {A B C : Type 0} (v : T → Option A) (n k : ℕ) → IsOf v n → nat_lt k n ≡ true → {f : A → B → C} {L : Lang T B} → Starts (Then f (One v) L) (over k)
  first_over v n k i lt {f = f} {L = L} = then_starts f (One v) L (over k) (one_over v n k i lt)

  pub lower : {A : Type 0} (k m : ℕ) → nat_lt m k ≡ true → {L : Lang T A} → Starts L (over k) → Starts L (over m)
  lower k m lt st = record { by = λ ts x h. go ts (st.by ts x h) }
    where
      less_than : (n : ℕ) → nat_lt k n ≡ true → nat_lt m n ≡ true
      less_than n e = grind (arith, nat_tests)

      go : (ts : List T) → Begins (over k) ts → Begins (over m) ts
      go [] h = absurd h
      go (t ∷ ts) h = less_than (class t) h
