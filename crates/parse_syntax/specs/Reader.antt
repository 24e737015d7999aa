-- Readers: what reading from the front gives.
use Rattle.std.specs.Prelude.{ℕ, zero, suc, List, [], ◌∷◌, ◌++◌, length, Bool, true, false, cond, Option}
use Rattle.std.specs.Prelude.{Some, None, is_some}

-- what is wrong at a token: it isn't allowed there, or would be but for the limit on nesting
pub data SyntaxFaultKind : Type 0 where
  Wrong TooDeep : SyntaxFaultKind

-- a value and the tokens after it, or what is wrong and the tokens from there on
pub data Answer (T A : Type 0) : Type 0 where
  Got : A → List T → Answer T A
  Bad : SyntaxFaultKind → List T → Answer T A

abbrev pub TokenReader : Type 0 → Type 0 → Type 0
TokenReader T A = List T → Answer T A

infixl 10 ◌>>=◌
abbrev pub ◌>>=◌ : {T A B : Type 0} → Answer T A → (A → List T → Answer T B) → Answer T B
(Got x rest) >>= f = f x rest
(Bad k rest) >>= f = Bad k rest

-- of two values the first, and the second
abbrev pub keep_first : {A B : Type 0} → A → B → A
keep_first x y = x

abbrev pub keep_second : {A B : Type 0} → A → B → B
keep_second x y = y

module _ {T : Type 0} where
  abbrev pub wrong : {A : Type 0} → TokenReader T A
  wrong s = Bad Wrong s

  abbrev pub too_deep : {A : Type 0} → TokenReader T A
  too_deep s = Bad TooDeep s

  abbrev pub map_by : {A B : Type 0} → (A → B) → TokenReader T A → TokenReader T B
  map_by f r s = r s >>= λ x rest. Got (f x) rest

  -- one after the other
  abbrev pub and_then : {A B C : Type 0} → (A → B → C) → TokenReader T A → TokenReader T B → TokenReader T C
  and_then f r q s = r s >>= λ x rest. q rest >>= λ y rest'. Got (f x y) rest'

  -- the same, where the first value says how the second is read
  abbrev pub and_bind : {A B C : Type 0} → (A → B → C) → TokenReader T A → (A → TokenReader T B)
      → TokenReader T C
  and_bind f r q s = r s >>= λ x rest. q x rest >>= λ y rest'. Got (f x y) rest'

  -- the value of a token
  abbrev pub take_or : {A : Type 0} → Option A → T → List T → Answer T A
  take_or None t rest = Bad Wrong (t ∷ rest)
  take_or (Some x) t rest = Got x rest

  abbrev pub one_of : {A : Type 0} → (T → Option A) → TokenReader T A
  one_of value [] = Bad Wrong []
  one_of value (t ∷ rest) = take_or (value t) t rest

  abbrev pub succeed : {A : Type 0} → A → TokenReader T A
  succeed x s = Got x s

  -- the one or the other, by the front
  abbrev pub choose : {A : Type 0} → (List T → Bool) → TokenReader T A → TokenReader T A → TokenReader T A
  choose starts r q s = cond (starts s) (r s) (q s)

  -- as long as one starts, at most so many
  abbrev pub loop : {A : Type 0} → (List T → Bool) → TokenReader T A → ℕ → TokenReader T (List A)
  loop starts r zero s = Got [] s
  loop starts r (suc n) s =
      cond (starts s) (r s >>= λ x rest. loop starts r n rest >>= λ xs rest'. Got (x ∷ xs) rest') (Got [] s)

  abbrev pub all_of : {A : Type 0} → (List T → Bool) → TokenReader T A → TokenReader T (List A)
  all_of starts r s = loop starts r (length s) s

  -- where there is room
  abbrev pub opens : {A : Type 0} → Bool → (List T → Bool) → TokenReader T A → TokenReader T A
  opens true starts r s = r s
  opens false starts r s = choose starts too_deep wrong s

  -- the first token has such a value
  abbrev pub heads : {A : Type 0} → (T → Option A) → List T → Bool
  heads v [] = false
  heads v (t ∷ s) = is_some (v t)

  -- the first token has such a value, and the second one such another
  abbrev pub heads_two : {A B : Type 0} → (T → Option A) → (T → Option B) → List T → Bool
  heads_two v w [] = false
  heads_two v w (t ∷ s) = cond (is_some (v t)) (heads w s) false

  -- nothing is left
  abbrev pub at_end : TokenReader T (Unit {0})
  at_end [] = Got tt []
  at_end (t ∷ s) = Bad Wrong (t ∷ s)

  -- this and nothing after it
  abbrev pub read_whole : {A : Type 0} → TokenReader T A → TokenReader T A
  read_whole r = and_then keep_first r at_end

  -- where there is leave to
  abbrev pub allowed : {A : Type 0} → Bool → TokenReader T A → TokenReader T A
  allowed true r = r
  allowed false r = wrong

  -- front, and then what the answer has
  abbrev pub with_front : {A : Type 0} → List A → Answer T (List A) → Answer T (List A)
  with_front front (Got xs rest) = Got (front ++ xs) rest
  with_front front (Bad k rest) = Bad k rest
