-- Which tokens are no script, and where that shows. A script is of a family of languages, by how many may be
-- open at once.
use Rattle.std.specs.Prelude.{◌≡◌, ℕ, List, [], ◌∷◌, ◌++◌}
use Rattle.parse_syntax.specs.Lang.{Lang}
use Rattle.parse_syntax.specs.Reader.{SyntaxFaultKind, Wrong, TooDeep}

module _ {T A : Type 0} (Script : ℕ → Lang T A) where
  -- the tokens go on to a script with at most n open; what they go on with need not come from a text, which
  -- is harmless, since each terminal has a value for some token of a text
  abbrev pub CanBegin : ℕ → List T → Type 0
  CanBegin n ts = (more : List T) × (x : A) × Script n (ts ++ more) x

  -- what is wrong at the first token after the front, or at the end of the text
  abbrev pub IsWrongAt : ℕ → List T → SyntaxFaultKind → List T → Type 0
  IsWrongAt n front Wrong [] = (m : ℕ) (x : A) → Script m front x → ⊥
  IsWrongAt n front Wrong (t ∷ after) = (m : ℕ) → CanBegin m (front ++ t ∷ []) → ⊥
  IsWrongAt n front TooDeep [] = ⊥
  IsWrongAt n front TooDeep (t ∷ after) =
      (CanBegin n (front ++ t ∷ []) → ⊥) × (m : ℕ) × CanBegin m (front ++ t ∷ [])

  -- the tokens before the rest begin a script, and with the rest's first one, none
  pub record IsRefused (n : ℕ) (tokens : List T) (kind : SyntaxFaultKind) (rest : List T) : Type 0 where
    pub front : List T
    pub whole : tokens ≡ front ++ rest
    pub begins : CanBegin n front
    pub wrong : IsWrongAt n front kind rest
