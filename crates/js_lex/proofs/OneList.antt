-- A text has one list of tokens or one first fault.
use Rattle.std.proofs.Common.{◌≡◌, ℕ, List, [], ◌∷◌, refl, sym, ap, ◌∙◌, subst, ◌⊎◌, inl, inr, Ok, Err}
use Rattle.std.specs.Prelude.{IsUtf8, Result, IfOk, IfErr}
use Rattle.std.specs.Str.Lossy.{utf8_valid_len}
use Rattle.js_lex.specs.Tokens.{Element, End, Skip, TokenOf, Fault, ElementAt, Lexes, done, skip, token, FailsFrom, fault, skip_on, token_on, TokensOf, LexFaultOf, no_text, in_text}
use Rattle.js_lex.specs.declared.token.Token.{Token}
use Rattle.js_lex.specs.declared.token.LexFault.{LexFault}
use Rattle.js_lex.specs.declared.token.LexFault.TheVariants as faults
use Rattle.js_lex.proofs.Lookaheads.{one_element}
use Rattle.js_lex.specs.Reader.{token_at}

-- how a list of tokens begins
abbrev pub After : List ℕ → ℕ → List Token → Element → Type 0
After text at ts End = ts ≡ []
After text at ts (Skip mid) = Lexes text mid ts
After text at ts (TokenOf k mid) = (us : List Token) × (ts ≡ token_at k at mid ∷ us) × Lexes text mid us
After text at ts (Fault f) = ⊥

begun : (text : List ℕ) (at : ℕ) (ts : List Token) → Lexes text at ts → (m : Element) × ElementAt text at m × After text at ts m
begun text _ _ (done at h) = (End, h, refl)
begun text _ _ (skip at mid ts h t) = (Skip mid, h, t)
begun text _ _ (token at mid k ts h t) = (TokenOf k mid, h, (ts, refl, t))

abbrev Then : List ℕ → ℕ → LexFault → Element → Type 0
Then text at f End = ⊥
Then text at f (Skip mid) = FailsFrom text mid f
Then text at f (TokenOf k mid) = FailsFrom text mid f
Then text at f (Fault g) = f ≡ g

failed : (text : List ℕ) (at : ℕ) (f : LexFault) → FailsFrom text at f → (m : Element) × ElementAt text at m × Then text at f m
failed text _ _ (fault at f h) = (Fault f, h, refl)
failed text _ _ (skip_on at mid f h t) = (Skip mid, h, t)
failed text _ _ (token_on at mid k f h t) = (TokenOf k mid, h, t)

-- what begins by another move begins by this one
pub after_same : (text : List ℕ) (at : ℕ) (ts : List Token) (m : Element) → IsUtf8 text → ElementAt text at m → Lexes text at ts → After text at ts m
after_same text at ts m u h g = let b = begun text at ts g in subst (After text at ts) (one_element text at (b.0) m u (b.1) h) (b.2)

then_same : (text : List ℕ) (at : ℕ) (f : LexFault) (m : Element) → IsUtf8 text → ElementAt text at m → FailsFrom text at f → Then text at f m
then_same text at f m u h g = let b = failed text at f g in subst (Then text at f) (one_element text at (b.0) m u (b.1) h) (b.2)

pub one_list : (text : List ℕ) (at : ℕ) (ts us : List Token) → IsUtf8 text → Lexes text at ts → Lexes text at us → ts ≡ us
one_list text _ _ us u (done at h) g = sym (after_same text at us End u h g)
one_list text _ _ us u (skip at mid ts h t) g = one_list text mid ts us u t (after_same text at us (Skip mid) u h g)
one_list text _ _ us u (token at mid k ts h t) g =
    let a = after_same text at us (TokenOf k mid) u h g in
    ap (λ r. token_at k at mid ∷ r) (one_list text mid ts (a.0) u t (a.2)) ∙ sym (a.1)

pub not_both : (text : List ℕ) (at : ℕ) (ts : List Token) (f : LexFault) → IsUtf8 text → Lexes text at ts → FailsFrom text at f → ⊥
not_both text _ _ f u (done at h) g = then_same text at f End u h g
not_both text _ _ f u (skip at mid ts h t) g = not_both text mid ts f u t (then_same text at f (Skip mid) u h g)
not_both text _ _ f u (token at mid k ts h t) g = not_both text mid ts f u t (then_same text at f (TokenOf k mid) u h g)

pub one_fault : (text : List ℕ) (at : ℕ) (f e : LexFault) → IsUtf8 text → FailsFrom text at f → FailsFrom text at e → f ≡ e
one_fault text _ _ e u (fault at f h) g = sym (then_same text at e (Fault f) u h g)
one_fault text _ _ e u (skip_on at mid f h t) g = one_fault text mid f e u t (then_same text at e (Skip mid) u h g)
one_fault text _ _ e u (token_on at mid k f h t) g = one_fault text mid f e u t (then_same text at e (TokenOf k mid) u h g)

-- the same of bytes
pub apart : (bytes : List ℕ) (ts : List Token) (f : LexFault) → TokensOf bytes ts → LexFaultOf bytes f → ⊥
apart bytes ts _ h (no_text n) = n h.utf8
apart bytes ts _ h (in_text f u g) = not_both bytes 0 ts f u h.lexes g

pub one_lex_fault : (bytes : List ℕ) (f e : LexFault) → LexFaultOf bytes f → LexFaultOf bytes e → f ≡ e
one_lex_fault bytes _ e (no_text n) g = go e g
  where
    go : (e : LexFault) → LexFaultOf bytes e → faults.NotUtf8 (utf8_valid_len bytes) ≡ e
    go _ (no_text n2) = refl
    go _ (in_text f u h) = absurd (n u)
one_lex_fault bytes _ e (in_text f u h) g = go e g
  where
    go : (e : LexFault) → LexFaultOf bytes e → f ≡ e
    go _ (no_text n) = absurd (n u)
    go _ (in_text e v k) = one_fault bytes 0 f e u h k

pub one_tokens : (bytes : List ℕ) (ts us : List Token) → TokensOf bytes ts → TokensOf bytes us → ts ≡ us
one_tokens bytes ts us h g = one_list bytes 0 ts us h.utf8 h.lexes g.lexes

-- what is right is the only answer; view gives an answer's tokens
pub only_tokens : {A : Type 0} (view : A → List Token) (bytes : List ℕ) (r : Result A LexFault) → IfOk r (λ v. TokensOf bytes (view v)) →
    IfErr r (λ e. (e ≡ faults.Memory) ⊎ LexFaultOf bytes e) → (ts : List Token) → TokensOf bytes ts → IfOk r (λ v. view v ≡ ts) × IfErr r (λ e. e ≡ faults.Memory)
only_tokens view bytes (Ok v) ok err ts h = (one_list bytes 0 (view v) ts h.utf8 ok.lexes h.lexes, tt)
only_tokens view bytes (Err e) ok err ts h = (tt, go err)
  where
    go : (e ≡ faults.Memory) ⊎ LexFaultOf bytes e → e ≡ faults.Memory
    go (inl m) = m
    go (inr f) = absurd (apart bytes ts e h f)

pub only_fault : {A : Type 0} (view : A → List Token) (bytes : List ℕ) (r : Result A LexFault) → IfOk r (λ v. TokensOf bytes (view v)) →
    IfErr r (λ e. (e ≡ faults.Memory) ⊎ LexFaultOf bytes e) → (f : LexFault) → LexFaultOf bytes f → IfOk r (λ v. ⊥) × IfErr r (λ e. (e ≡ f) ⊎ (e ≡ faults.Memory))
only_fault view bytes (Ok v) ok err f h = (apart bytes (view v) f ok h, tt)
only_fault view bytes (Err e) ok err f h = (tt, go err)
  where
    go : (e ≡ faults.Memory) ⊎ LexFaultOf bytes e → (e ≡ f) ⊎ (e ≡ faults.Memory)
    go (inl m) = inr m
    go (inr g) = inl (one_lex_fault bytes e f g h)
