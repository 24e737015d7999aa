-- What comes next from a place on: the first token, the end, or a fault.
use Rattle.std.specs.Prelude.{◌≡◌, ◌⊎◌, ℕ, ◌<◌, ◌≤◌, List, [], ◌∷◌, length, Result, Ok, Err, Option, Some}
use Rattle.std.specs.Prelude.{None}
use Rattle.std.specs.Str.{IsCharBoundary}
use Rattle.js_lex.specs.Tokens.{Skip, TokenOf, Fault, ElementAt, Lexes, FailsFrom}
use Rattle.js_lex.specs.declared.token.Token.{Token}
use Rattle.js_lex.specs.declared.token.LexFault.{LexFault}
use Rattle.js_lex.specs.declared.token.LexFault.TheVariants.{Memory}

-- from one place up to another there is only what separates tokens
pub data Separates (text : List ℕ) (at : ℕ) : ℕ → Type 0 where
  nothing : Separates text at at
  more : (mid end : ℕ) → Separates text at mid → ElementAt text mid (Skip end) → Separates text at end

-- the first token from a place on
pub record IsNextToken (text : List ℕ) (at : ℕ) (t : Token) : Type 0 where
  pub apart : Separates text at t.from
  pub stands : ElementAt text t.from (TokenOf t.kind t.to)

-- the fault from a place on, before which there is no token
pub record IsNextFault (text : List ℕ) (at : ℕ) (f : LexFault) : Type 0 where
  pub place : ℕ
  pub apart : Separates text at place
  pub stands : ElementAt text place (Fault f)

-- what comes next from a place on is reported, unless memory ran out
abbrev pub GivesToken : List ℕ → ℕ → Result (Option Token) LexFault → Type 0
GivesToken text at (Ok None) = Lexes text at []
GivesToken text at (Ok (Some t)) = IsNextToken text at t
GivesToken text at (Err e) = (e ≡ Memory) ⊎ IsNextFault text at e

-- where the first token from a place on lies, and that what the text has behind it, it has from the place on
pub record GoesOn (text : List ℕ) (at : ℕ) (t : Token) : Type 0 where
  pub behind : at ≤ t.from
  pub forward : t.from < t.to
  pub within : t.to ≤ length text
  pub start : IsCharBoundary text t.from
  pub cut : IsCharBoundary text t.to
  pub lexes : (ts : List Token) → Lexes text t.to ts → Lexes text at (t ∷ ts)
  pub fails : (f : LexFault) → FailsFrom text t.to f → FailsFrom text at f
  pub only : (u : Token) (ts : List Token) → Lexes text at (u ∷ ts) → (u ≡ t) × Lexes text t.to ts
