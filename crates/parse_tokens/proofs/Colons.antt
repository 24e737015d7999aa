-- Whether a colon comes next.
use Rattle.std.proofs.Common.{◌≡◌, ℕ, List, [], sym, ap}
use Rattle.std.specs.Prelude.{IsUtf8}
use Rattle.js_lex.specs.Tokens.{Skip, TokenOf, Lexes}
use Rattle.js_lex.specs.Next.{Separates, nothing, more, IsNextToken}
use Rattle.js_lex.specs.declared.token.Token.{Token as Lexed}
use Rattle.js_lex.proofs.OneList.{after_same, one_list}
use Rattle.parse_tokens.specs.Tokens.{begins_colon}
use Rattle.parse_tokens.specs.Steps.{is_colon}

-- behind what separates tokens the same tokens follow
skipped : (text : List ℕ) (at mid : ℕ) (ts : List Lexed) → IsUtf8 text → Separates text at mid → Lexes text at ts → Lexes text mid ts
skipped text at _ ts u nothing h = h
skipped text at _ ts u (more mid end s e) h = after_same text mid ts (Skip end) u e (skipped text at mid ts u s h)

pub next_colon : (text : List ℕ) (at : ℕ) (t : Lexed) → IsUtf8 text → IsNextToken text at t → (ts : List Lexed) → Lexes text at ts → is_colon t.kind ≡ begins_colon ts
next_colon text at t u n ts h =
    let a = after_same text t.from ts (TokenOf t.kind t.to) u n.stands (skipped text at t.from ts u n.apart h) in
    sym (ap begins_colon a.1)

pub none_next : (text : List ℕ) (at : ℕ) → IsUtf8 text → Lexes text at [] → (ts : List Lexed) → Lexes text at ts → begins_colon [] ≡ begins_colon ts
none_next text at u n ts h = ap begins_colon (one_list text at [] ts u n h)
