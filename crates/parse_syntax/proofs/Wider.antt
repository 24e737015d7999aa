-- Languages that contain others, and what they begin with.
use Rattle.std.proofs.Common.{◌≡◌, List, [], ◌∷◌, ◌++◌, Bool, true, Option, Some, None, refl}
use Rattle.parse_syntax.specs.Lang.{Lang, One, one, Then, both, Mapped, mapped, Either, left, right, Many, end, more}
use Rattle.std.specs.Prelude.{is_some}

pub some_of : {A : Type 0} (o : Option A) → is_some o ≡ true → (x : A) × (o ≡ Some x)
some_of None e = cc
some_of (Some x) e = (x, refl)

pub is_some_of : {A : Type 0} (o : Option A) (x : A) → o ≡ Some x → is_some o ≡ true
is_some_of None x e = cc
is_some_of (Some y) x e = refl

module _ {T : Type 0} where
  -- M has all that L has
  pub record IsIn {A : Type 0} (L M : Lang T A) : Type 0 where
    pub at : (ts : List T) (x : A) → L ts x → M ts x

  pub itself : {A : Type 0} (L : Lang T A) → IsIn L L
  itself L = record { at = λ ts x h. h }

  module _ {A B C : Type 0} (f : A → B → C) (L L' : Lang T A) (M M' : Lang T B) (l : IsIn L L') (m : IsIn M M') where
    then_at : (ts : List T) (x : C) → Then f L M ts x → Then f L' M' ts x
    then_at _ _ (both a b x y ha hb) = both a b x y (l.at a x ha) (m.at b y hb)

    pub then_wider : IsIn (Then f L M) (Then f L' M')
    then_wider = record { at = then_at }

  module _ {A B : Type 0} (f : A → B) (L L' : Lang T A) (l : IsIn L L') where
    mapped_at : (ts : List T) (x : B) → Mapped f L ts x → Mapped f L' ts x
    mapped_at _ _ (mapped a x h) = mapped a x (l.at a x h)

    pub mapped_wider : IsIn (Mapped f L) (Mapped f L')
    mapped_wider = record { at = mapped_at }

  module _ {A : Type 0} (L L' M M' : Lang T A) (l : IsIn L L') (m : IsIn M M') where
    either_at : (ts : List T) (x : A) → Either L M ts x → Either L' M' ts x
    either_at _ _ (left a x h) = left a x (l.at a x h)
    either_at _ _ (right a x h) = right a x (m.at a x h)

    pub either_wider : IsIn (Either L M) (Either L' M')
    either_wider = record { at = either_at }

  module _ {A : Type 0} (L L' : Lang T A) (l : IsIn L L') where
    many_at : (ts : List T) (xs : List A) → Many L ts xs → Many L' ts xs
    many_at _ _ end = end
    many_at _ _ (more a b x xs h hs) = more a b x xs (l.at a x h) (many_at b xs hs)

    pub many_wider : IsIn (Many L) (Many L')
    many_wider = record { at = many_at }

  -- the first token is such a one
  abbrev pub Begins : (T → Bool) → List T → Type 0
  Begins test [] = ⊥
  Begins test (t ∷ s) = test t ≡ true

  pub begins_front : (test : T → Bool) (a b : List T) → Begins test a → Begins test (a ++ b)
  begins_front test [] b h = absurd h
  begins_front test (t ∷ a) b h = h

  pub record Starts {A : Type 0} (L : Lang T A) (test : T → Bool) : Type 0 where
    pub by : (ts : List T) (x : A) → L ts x → Begins test ts

  module _ {A : Type 0} (v : T → Option A) (test : T → Bool) (h : (t : T) (x : A) → v t ≡ Some x → test t ≡ true) where
    one_by : (ts : List T) (x : A) → One v ts x → Begins test ts
    one_by _ _ (one t x e) = h t x e

    pub one_starts : Starts (One v) test
    one_starts = record { by = one_by }

  module _ {A B C : Type 0} (f : A → B → C) (L : Lang T A) (M : Lang T B) (test : T → Bool) (l : Starts L test) where
    then_by : (ts : List T) (x : C) → Then f L M ts x → Begins test ts
    then_by _ _ (both a b x y ha hb) = begins_front test a b (l.by a x ha)

    pub then_starts : Starts (Then f L M) test
    then_starts = record { by = then_by }

  module _ {A B : Type 0} (f : A → B) (L : Lang T A) (test : T → Bool) (l : Starts L test) where
    mapped_by : (ts : List T) (x : B) → Mapped f L ts x → Begins test ts
    mapped_by _ _ (mapped a x h) = l.by a x h

    pub mapped_starts : Starts (Mapped f L) test
    mapped_starts = record { by = mapped_by }

  module _ {A : Type 0} (L M : Lang T A) (test : T → Bool) (l : Starts L test) (m : Starts M test) where
    either_by : (ts : List T) (x : A) → Either L M ts x → Begins test ts
    either_by _ _ (left a x h) = l.by a x h
    either_by _ _ (right a x h) = m.by a x h

    pub either_starts : Starts (Either L M) test
    either_starts = record { by = either_by }

  -- what follows from the first token
  pub head_gives : {B : Type 0} (test : T → Bool) (look : List T → B) (b : B) → ((t : T) (s : List T) → test t ≡ true → look (t ∷ s) ≡ b) → (ts rest : List T) → Begins test ts → look (ts ++ rest) ≡ b
  head_gives test look b h [] rest e = absurd e
  head_gives test look b h (t ∷ ts) rest e = h t (ts ++ rest) e
