-- The tokens before the rest, by their number.
use Rattle.std.proofs.Common.{◌≡◌, ℕ, ◌+◌, ◌-◌, List, ◌++◌, length, take, sym, ap, ◌∙◌, subst, arith, take_at, length-append}
use Rattle.parse_syntax.specs.Reader.{SyntaxFaultKind}
use Rattle.parse_syntax.specs.Refused.{IsRefused}
use Rattle.parse_syntax.specs.declared.token.GrammarToken.{GrammarToken}
use Rattle.parse_syntax.specs.Tables.{TokenTables}
use Rattle.parse_syntax.specs.Grammar.{Statements, most}
use Rattle.parse_tokens.specs.Tokens.{HasTokens}
use Rattle.js_parse.specs.declared.fault.Role.{Role}
use Rattle.js_parse.specs.Spells.{Refused, grammatical, prints, misplaced}
use Rattle.js_parse.specs.Told.{front_of}

pub front_is : (ts front rest : List GrammarToken) → ts ≡ front ++ rest → front_of ts rest ≡ front
front_is ts front rest e =
    let all : length ts ≡ length front + length rest = ap length e ∙ length-append front rest in
    let n : length front ≡ length ts - length rest = omega arith in
    ap (take (length ts - length rest)) e ∙ take_at front rest (length ts - length rest) n

-- the fault with the front by its number
pub grammatical_at : (r : Role) (outer : List (List ℕ)) (bytes : List ℕ) (ts : List GrammarToken) (literals : List
    (List ℕ)) (tables : TokenTables) (k : SyntaxFaultKind) (rest : List GrammarToken) → HasTokens bytes ts literals tables.names tables.keys →
    IsRefused (Statements tables (prints r)) most ts k rest
    → Refused r outer bytes (misplaced k (front_of ts rest) rest (length bytes))
grammatical_at r outer bytes ts literals tables k rest reads h =
    subst (λ front. Refused r outer bytes (misplaced k front rest (length bytes))) (sym (front_is ts h.front rest h.whole)) (grammatical ts literals tables k rest reads h)
