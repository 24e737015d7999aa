-- The lexer's loop.
use Rattle.std.proofs.Common.{◌≡◌, ℕ, List, [], ◌++◌, sym, subst, ◌⊎◌, inl, inr, Ok, Err}
use Rattle.js_lex.specs.Tokens.{Lexes, FailsFrom, LexFaultOf, no_text, in_text}
use Rattle.js_lex.specs.declared.token.Token.{Token}
use Rattle.js_lex.specs.declared.token.LexFault.{LexFault}
use Rattle.js_lex.specs.declared.token.LexFault.TheVariants as faults
use Rattle.std.specs.Prelude.{IsUtf8, Result, IfErr}
use Rattle.std.specs.Str.Lossy.{utf8_valid_len}

-- what the text has from a place on, it has as a whole, after the tokens so far
abbrev pub Goes : List ℕ → ℕ → List Token → Type 0
Goes text at sofar = (ts : List Token) → Lexes text at ts → Lexes text 0 (sofar ++ ts)

abbrev pub FailsOn : List ℕ → ℕ → Type 0
FailsOn text at = (f : LexFault) → FailsFrom text at f → FailsFrom text 0 f

pub goes_start : (text : List ℕ) (sofar : List Token) → sofar ≡ [] → Goes text 0 sofar
goes_start text sofar e = λ ts h. subst (λ s. Lexes text 0 (s ++ ts)) (sym e) h

-- a text's answer is that of its bytes
pub err_of_bytes : {A : Type 0} (bytes text : List ℕ) (r : Result A LexFault) → text ≡ bytes → IsUtf8 bytes → IfErr r
    (λ e. (e ≡ faults.Memory) ⊎ FailsFrom text 0 e) → IfErr r (λ e. (e ≡ faults.Memory) ⊎ LexFaultOf bytes e)
err_of_bytes bytes text (Ok v) same u h = tt
err_of_bytes bytes text (Err e) same u (inl m) = inl m
err_of_bytes bytes text (Err e) same u (inr f) = inr (in_text e u (subst (λ t. FailsFrom t 0 e) same f))

pub not_utf8 : (bytes : List ℕ) (at : ℕ) → (IsUtf8 bytes → ⊥) → at ≡ utf8_valid_len bytes → LexFaultOf bytes (faults.NotUtf8 at)
not_utf8 bytes at n e = subst (λ p. LexFaultOf bytes (faults.NotUtf8 p)) (sym e) (no_text n)
