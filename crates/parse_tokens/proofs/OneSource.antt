-- Bytes have one list of tokens with its literals, names and keys, or one first fault.
use Rattle.std.proofs.Common.{◌≡◌, ℕ, false, List, sym, ap, ◌∙◌, ◌⊎◌, inl, inr, Ok, Err}
use Rattle.std.specs.Prelude.{Result, IfOk, IfErr}
use Rattle.js_lex.specs.Tokens.{LexFaultOf}
use Rattle.js_lex.specs.declared.token.LexFault.{LexFault}
use Rattle.js_lex.specs.declared.token.LexFault.TheVariants as faults
use Rattle.js_lex.proofs.OneList.{one_tokens, apart, one_lex_fault}
use Rattle.parse_syntax.specs.declared.token.GrammarToken.{GrammarToken}
use Rattle.parse_tokens.specs.declared.read.ScriptTokens.{ScriptTokens}
use Rattle.parse_tokens.specs.Tokens.{HasTokens, nothing, tokens_from, after_all}
use Rattle.parse_tokens.specs.Steps.{IsScriptTokens}

pub same_source : (bytes : List ℕ) (ts us : List GrammarToken) (texts others names more keys further : List (List ℕ)) → HasTokens bytes ts
    texts names keys → HasTokens bytes us others more further → (ts ≡ us) × (texts ≡ others) × (names ≡ more) × (keys ≡ further)
same_source bytes ts us texts others names more keys further r s =
    let e : r.lexed ≡ s.lexed = one_tokens bytes r.lexed s.lexed r.lexes s.lexes in (
      r.tokens_are ∙ (ap (tokens_from bytes false nothing) e ∙ sym s.tokens_are),
      r.literals_are ∙ (ap (λ l. (after_all bytes false nothing l).texts) e ∙ sym s.literals_are),
      r.names_are ∙ (ap (λ l. (after_all bytes false nothing l).names) e ∙ sym s.names_are),
      r.keys_are ∙ (ap (λ l. (after_all bytes false nothing l).keys) e ∙ sym s.keys_are),
    )

pub only_source : (bytes : List ℕ) (r : Result ScriptTokens LexFault) → IfOk r
    (λ s. HasTokens bytes s.tokens.items s.literals.items s.names.items s.keys.items) → IfErr r (λ e. (e ≡ faults.Memory) ⊎ LexFaultOf bytes e)
    → (ts : List GrammarToken) (texts names keys : List (List ℕ)) → HasTokens bytes ts texts names keys → IfOk r (λ s. IsScriptTokens s ts texts names keys) × IfErr r (λ e. e ≡ faults.Memory)
only_source bytes (Ok s) ok err ts texts names keys h = (same_source bytes s.tokens.items ts s.literals.items texts s.names.items names s.keys.items keys ok h, tt)
only_source bytes (Err e) ok err ts texts names keys h = (tt, go err)
  where
    go : (e ≡ faults.Memory) ⊎ LexFaultOf bytes e → e ≡ faults.Memory
    go (inl m) = m
    go (inr f) = absurd (apart bytes h.lexed e h.lexes f)

pub only_fault : (bytes : List ℕ) (r : Result ScriptTokens LexFault) → IfOk r
    (λ s. HasTokens bytes s.tokens.items s.literals.items s.names.items s.keys.items) → IfErr r (λ e. (e ≡ faults.Memory) ⊎ LexFaultOf bytes e)
    → (f : LexFault) → LexFaultOf bytes f → IfOk r (λ s. ⊥) × IfErr r (λ e. (e ≡ f) ⊎ (e ≡ faults.Memory))
only_fault bytes (Ok s) ok err f h = (apart bytes ok.lexed f ok.lexes h, tt)
only_fault bytes (Err e) ok err f h = (tt, go err)
  where
    go : (e ≡ faults.Memory) ⊎ LexFaultOf bytes e → (e ≡ f) ⊎ (e ≡ faults.Memory)
    go (inl m) = inr m
    go (inr g) = inl (one_lex_fault bytes e f g h)
