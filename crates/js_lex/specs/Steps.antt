-- Helpers: no public contract reaches these definitions.
-- The code's steps, for the contracts of private functions.
use Rattle.std.specs.Prelude.{◌≡◌, ◌⊎◌, ℕ, ◌<◌, ◌≤◌, List, length, Result, Ok, Err}
use Rattle.std.specs.Str.{IsCharBoundary}
use Rattle.js_lex.specs.Tokens.{End, Skip, TokenOf, Fault, ElementAt}
use Rattle.js_literal.specs.declared.fault.LiteralFault.{LiteralFault}
use Rattle.js_literal.specs.declared.fault.LiteralFault.TheVariants as literals
use Rattle.js_lex.specs.declared.step.Next.{Next}
use Rattle.js_lex.specs.declared.step.Next.TheVariants as next
use Rattle.js_lex.specs.declared.token.LexFault.{LexFault}
use Rattle.js_lex.specs.declared.token.LexFault.TheVariants as faults

-- the place behind comes later, is within the text, and the text may be cut there
pub record IsForward (text : List ℕ) (at end : ℕ) : Type 0 where
  pub later : at < end
  pub within : end ≤ length text
  pub cut : IsCharBoundary text end

abbrev pub IsElement : List ℕ → ℕ → Result Next LexFault → Type 0
IsElement text at (Ok next.End) = ElementAt text at End
IsElement text at (Ok (next.Skip end)) = ElementAt text at (Skip end) × IsForward text at end
IsElement text at (Ok (next.Token k end)) = ElementAt text at (TokenOf k end) × IsForward text at end
IsElement text at (Err e) = (e ≡ faults.Memory) ⊎ ElementAt text at (Fault e)

-- out of memory is the lexer's own
abbrev pub lex_fault : LiteralFault → LexFault
lex_fault literals.Memory = faults.Memory
lex_fault f = faults.Literal f
