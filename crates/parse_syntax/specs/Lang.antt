-- Grammars: a language is the lists of tokens that spell a value.
use Rattle.std.specs.Prelude.{◌≡◌, List, [], ◌∷◌, ◌++◌, Option, Some, Bool, true, false}

-- a language over the tokens T: ts spells x
abbrev pub Lang : Type 0 → Type 0 → Type 1
Lang T A = List T → A → Type 0

module _ {T : Type 0} where
  -- one token that has a value
  pub data One {A : Type 0} (value : T → Option A) : List T → A → Type 0 where
    one : (t : T) (x : A) → value t ≡ Some x → One value (t ∷ []) x

  -- one after the other
  pub data Then {A B C : Type 0} (f : A → B → C) (L : Lang T A) (M : Lang T B) : List T → C → Type 0 where
    both : (a b : List T) (x : A) (y : B) → L a x → M b y → Then f L M (a ++ b) (f x y)

  -- one after the other, where the first value says what the second may be
  pub data Bind {A B C : Type 0} (f : A → B → C) (L : Lang T A) (M : A → Lang T B) : List T → C → Type 0 where
    bound : (a b : List T) (x : A) (y : B) → L a x → M x b y → Bind f L M (a ++ b) (f x y)

  -- another value for the same tokens
  pub data Mapped {A B : Type 0} (f : A → B) (L : Lang T A) : List T → B → Type 0 where
    mapped : (a : List T) (x : A) → L a x → Mapped f L a (f x)

  -- nothing
  pub data Nothing {A : Type 0} (y : A) : List T → A → Type 0 where
    nothing : (x : A) → y ≡ x → Nothing y [] x

  -- either
  pub data Either {A : Type 0} (L M : Lang T A) : List T → A → Type 0 where
    left : (a : List T) (x : A) → L a x → Either L M a x
    right : (a : List T) (x : A) → M a x → Either L M a x

  infixr 4 ◌¦◌
  abbrev pub ◌¦◌ : {A : Type 0} → Lang T A → Lang T A → Lang T A
  L ¦ M = Either L M

  -- any number of times
  pub data Many {A : Type 0} (L : Lang T A) : List T → List A → Type 0 where
    end : Many L [] []
    more : (a b : List T) (x : A) (xs : List A) → L a x → Many L b xs → Many L (a ++ b) (x ∷ xs)

  -- no list of tokens
  abbrev pub Never : {A : Type 0} → Lang T A
  Never ts x = ⊥

  -- only where there is room
  abbrev pub if_room : {A : Type 0} → Bool → Lang T A → Lang T A
  if_room true L = L
  if_room false L = Never

  -- one after the other, with the value of the second one
  infixr 5 ◌▸◌
  abbrev pub ◌▸◌ : {A B : Type 0} → Lang T A → Lang T B → Lang T B
  L ▸ M = Then (λ x y. y) L M

  -- one after the other, with the value of the first one
  infixr 5 ◌◂◌
  abbrev pub ◌◂◌ : {A B : Type 0} → Lang T A → Lang T B → Lang T A
  L ◂ M = Then (λ x y. x) L M
