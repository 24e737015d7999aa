-- The loop over the tokens of a text.
use Rattle.std.proofs.Common.{◌≡◌, ℕ, ◌+◌, ◌≤◌, Bool, true, false, List, [], ◌∷◌, ◌++◌, length, length-append, append_assoc, refl, sym, subst, arith, ◌⊎◌, inl, inr, Ok, Err}
use Rattle.std.specs.Prelude.{IsUtf8, Result, IfErr, OnOk, is_err, nat_lt, if◌then◌else◌}
use Rattle.js_lex.specs.Tokens.{FailsFrom, LexFaultOf, in_text}
use Rattle.js_lex.specs.Next.{GoesOn}
use Rattle.js_lex.specs.declared.token.Token.{Token as Lexed}
use Rattle.js_lex.specs.declared.token.TokenKind.{TokenKind}
use Rattle.js_lex.specs.declared.token.TokenKind.TheVariants as kinds
use Rattle.js_lex.specs.declared.token.LexFault.{LexFault}
use Rattle.js_lex.specs.declared.token.LexFault.TheVariants as faults
use Rattle.parse_syntax.specs.declared.token.GrammarToken.{GrammarToken}
use Rattle.parse_tokens.specs.Tokens.{Before, opens_member, grammar_token, before_next, tokens_from, after_all, literals_after, keys_after, table_after, texts_with, with_name, place_in, is_use_strict}
use Rattle.parse_tokens.specs.Steps.{Goes, Whole, TellsKey, before_at, is_empty}

pub goes_start : (text : List ℕ) (tokens : List GrammarToken) (texts names keys : List (List ℕ)) → tokens ≡ [] → texts ≡ [] → names ≡ [] →
    keys ≡ [] → Goes text 0 tokens false (before_at tokens texts names keys 0)
goes_start text tokens texts names keys e f g k = rw (e, f, g, k) (λ ts h. record { lexed = ts; lexes = h; tokens_are = refl; last_is = refl })

started : (tokens : List GrammarToken) (x : GrammarToken) → is_empty (tokens ++ x ∷ []) ≡ false
started [] x = refl
started (y ∷ tokens) x = refl

one_more : (text : List ℕ) (at : ℕ) (t : Lexed) (opened key : Bool) (tokens : List GrammarToken) (texts names keys : List (List ℕ)) → GoesOn
    text at t → TellsKey text opened t key → Goes text at tokens opened (before_at tokens texts names keys at)
    → let before = before_at tokens texts names keys at in
    let next = before_next text before key t in Goes text t.to (tokens ++ grammar_token text before key t ∷ []) (opens_member t.kind)
    (before_at (tokens ++ grammar_token text before key t ∷ []) next.texts next.names next.keys t.to)
one_more text at t opened key tokens texts names keys on tells goes = λ ts h.
    let before = before_at tokens texts names keys at in
    let x = grammar_token text before key t in
    let next = before_next text before key t in
    let P : Bool → Type 0 = λ b. (let n : Before = record {
      first = b;
      end = t.to;
      names = next.names;
      texts = next.texts;
      keys = next.keys;
    } in Whole text ((tokens ++ x ∷ []) ++ tokens_from text (opens_member t.kind) n ts) (after_all text (opens_member t.kind) n ts)) in
    let Q : Bool → Type 0 = λ k. (let n = before_next text before k t in Whole text
    (tokens ++ grammar_token text before k t ∷ tokens_from text (opens_member t.kind) n ts) (after_all text (opens_member t.kind) n ts)) in
    let all : Q key = subst Q (sym (tells ts h)) (goes (t ∷ ts) (on.lexes ts h)) in
    subst P (sym (started tokens x)) (rw append_assoc all)

pub goes_on : (text : List ℕ) (at : ℕ) (t : Lexed) (opened key opens : Bool) (tokens tokens' : List GrammarToken)
    (texts texts' names names' keys keys' : List (List ℕ)) → GoesOn text at t → TellsKey text opened t key → opens ≡ opens_member t.kind →
    Goes text at tokens opened (before_at tokens texts names keys at)
    → (let before = before_at tokens texts names keys at in (tokens' ≡ tokens ++ grammar_token text before key t ∷ []) ×
    (texts' ≡ (before_next text before key t).texts) × (names' ≡ (before_next text before key t).names) × (keys' ≡ (before_next text before key t).keys))
    → Goes text t.to tokens' opens (before_at tokens' texts' names' keys' t.to)
goes_on text at t opened key opens tokens tokens' texts texts' names names' keys keys' on tells o goes e = rw (e.0, e.1, e.2, e.3, o)
    (one_more text at t opened key tokens texts names keys on tells goes)

-- at most one text, one name and one key come with a token

few : (xs : List (List ℕ)) (x : List ℕ) → length (xs ++ x ∷ []) ≤ length xs + 1
few xs x = simp length-append (omega arith)

few_texts_after : (first strict : Bool) (texts : List (List ℕ)) (source units : List ℕ) → is_use_strict source ≡ strict → length (texts_with false first texts source units) ≤ length texts + 1
few_texts_after true true texts source units e = rw e (omega arith)
few_texts_after true false texts source units e = rw e (few texts units)
few_texts_after false strict texts source units e = few texts units

few_strings : (key : Bool) (before : Before) (source units : List ℕ) → length (texts_with key before.first before.texts source units) ≤ length before.texts + 1
few_strings true before source units = omega arith
few_strings false before source units = few_texts_after before.first (is_use_strict source) before.texts source units refl

pub few_texts : (key : Bool) (before : Before) (source : List ℕ) (kind : TokenKind) → length (literals_after key before source kind) ≤ length before.texts + 1
few_texts key before source kinds.Word = omega arith
few_texts key before source (kinds.Text units) = few_strings key before source units
few_texts key before source (kinds.Number value) = omega arith
few_texts key before source (kinds.Mark mark) = omega arith

few_key : (key : Bool) (before : Before) (units : List ℕ) → length (if key then before.keys ++ units ∷ [] else before.keys) ≤ length before.keys + 1
few_key true before units = few before.keys units
few_key false before units = omega arith

pub few_keys : (key : Bool) (before : Before) (kind : TokenKind) → length (keys_after key before kind) ≤ length before.keys + 1
few_keys key before kinds.Word = omega arith
few_keys key before (kinds.Text units) = few_key key before units
few_keys key before (kinds.Number value) = omega arith
few_keys key before (kinds.Mark mark) = omega arith

few_with : (names : List (List ℕ)) (letters : List ℕ) (b : Bool) → nat_lt (place_in names letters) (length names) ≡ b → length (with_name names letters) ≤ length names + 1
few_with names letters true e = rw e (omega arith)
few_with names letters false e = rw e (few names letters)

pub few_names : (before : Before) (source : List ℕ) (kind : TokenKind) → length (table_after before source kind) ≤ length before.names + 1
few_names before source kinds.Word = few_with before.names source _ refl
few_names before source (kinds.Text units) = omega arith
few_names before source (kinds.Number value) = omega arith
few_names before source (kinds.Mark mark) = omega arith

pub on_ok : {A E : Type 0} (P : Type 0) (r : Result A E) → is_err r ≡ false → OnOk r P → P
on_ok P (Ok x) e h = h
on_ok P (Err x) e h = absurd (cc)

pub bytes_fault : {A : Type 0} (bytes text : List ℕ) (r : Result A LexFault) → text ≡ bytes → IsUtf8 bytes → IfErr r
    (λ e. (e ≡ faults.Memory) ⊎ FailsFrom text 0 e) → IfErr r (λ e. (e ≡ faults.Memory) ⊎ LexFaultOf bytes e)
bytes_fault bytes text (Ok v) same u h = tt
bytes_fault bytes text (Err e) same u (inl m) = inl m
bytes_fault bytes text (Err e) same u (inr f) = inr (in_text e u (subst (λ t. FailsFrom t 0 e) same f))
