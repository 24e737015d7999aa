-- What the next token says of the lists and the faults from a place on.
use Rattle.std.proofs.Common.{◌≡◌, ℕ, ◌≤◌, List, [], ◌∷◌, subst, arith, ◌⊎◌, inl, inr}
use Rattle.std.specs.Prelude.{IsUtf8}
use Rattle.std.specs.Str.{IsCharBoundary}
use Rattle.js_lex.specs.Tokens.{End, Skip, TokenOf, Fault, ElementAt, Lexes, done, skip, token, FailsFrom, fault, skip_on, token_on}
use Rattle.js_lex.specs.Next.{Separates, nothing, more, IsNextToken, GoesOn}
use Rattle.js_lex.specs.declared.token.Token.{Token}
use Rattle.js_lex.specs.declared.token.LexFault.{LexFault}
use Rattle.js_lex.specs.declared.token.LexFault.TheVariants as faults
use Rattle.js_lex.proofs.OneList.{after_same}
use Rattle.js_lex.proofs.Spans.{forward}
use Rattle.js_lex.specs.Reader.{token_at}

module _ (text : List ℕ) (at : ℕ) where
  pub lexes_behind : (mid : ℕ) → Separates text at mid → (ts : List Token) → Lexes text mid ts → Lexes text at ts
  lexes_behind _ nothing ts h = h
  lexes_behind _ (more mid end s e) ts h = lexes_behind mid s ts (skip mid end ts e h)

  pub fails_behind : (mid : ℕ) → Separates text at mid → (f : LexFault) → FailsFrom text mid f → FailsFrom text at f
  fails_behind _ nothing f h = h
  fails_behind _ (more mid end s e) f h = fails_behind mid s f (skip_on mid end f e h)

  only_behind : (mid : ℕ) → IsUtf8 text → Separates text at mid → (ts : List Token) → Lexes text at ts → Lexes text mid ts
  only_behind _ u nothing ts h = h
  only_behind _ u (more mid end s e) ts h = after_same text mid ts (Skip end) u e (only_behind mid u s ts h)

  not_before : (mid : ℕ) → IsUtf8 text → Separates text at mid → at ≤ mid
  not_before _ u nothing = omega arith
  not_before _ u (more mid end s e) = let p = not_before mid u s in let f = forward text mid (Skip end) u e in omega (arith, p, f.later)

  pub goes_on : (t : Token) → IsUtf8 text → IsCharBoundary text t.from → IsNextToken text at t → GoesOn text at t
  goes_on t u start n =
      let f = forward text t.from (TokenOf t.kind t.to) u n.stands in
      record {
        behind = not_before t.from u n.apart;
        forward = f.later;
        within = f.within;
        start = start;
        cut = f.cut;
        lexes = λ ts h. lexes_behind t.from n.apart (t ∷ ts) (token t.from t.to t.kind ts n.stands h);
        fails = λ e h. fails_behind t.from n.apart e (token_on t.from t.to t.kind e n.stands h);
        only = λ v ts h. first v ts (after_same text t.from (v ∷ ts) (TokenOf t.kind t.to) u n.stands (only_behind t.from u n.apart (v ∷ ts) h));
      }
    where
      first : (v : Token) (ts : List Token) → (us : List Token) × (v ∷ ts ≡ token_at t.kind t.from t.to ∷ us) × Lexes text t.to us → (v ≡ t) × Lexes text t.to ts
      first v ts p =
          let e : v ∷ ts ≡ t ∷ p.0 = p.1 in
          let same : v ≡ t = cc in
          let rest : p.0 ≡ ts = cc in
          (same, subst (Lexes text t.to) rest (p.2))

  pub lexes_none : (mid : ℕ) → Separates text at mid → ElementAt text mid End → Lexes text at []
  lexes_none mid s e = lexes_behind mid s [] (done mid e)

  pub fails_here : (mid : ℕ) (e : LexFault) → Separates text at mid → (e ≡ faults.Memory) ⊎ ElementAt text mid (Fault e) → (e ≡ faults.Memory) ⊎ FailsFrom text at e
  fails_here mid e s (inl m) = inl m
  fails_here mid e s (inr h) = inr (fails_behind mid s e (fault mid e h))
