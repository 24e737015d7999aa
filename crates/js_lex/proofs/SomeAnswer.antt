-- Bytes have tokens or a fault: at each place something stands, and each element ends later than it begins.
use Rattle.std.proofs.Common.{◌≡◌, ℕ, ◌+◌, ◌-◌, ◌<◌, ◌≤◌, List, [], ◌∷◌, length, drop, zero, suc, Bool, true, false, refl, sym, arith, ◌⊎◌, inl, inr}
use Rattle.std.specs.Prelude.{IsUtf8, encode_utf8_all}
use Rattle.std.specs.Str.{chars, IsCharBoundary, is_utf8}
use Rattle.std.specs.Str.Lossy.{utf8_valid_len}
use Rattle.std.proofs.lemmas.Str.{IsUtf8-from_is_utf8, is_utf8-from_IsUtf8, IsCharBoundary-start}
use Rattle.js_literal.specs.Place.{StandsAt}
use Rattle.js_literal.specs.Literal.{LiteralOf, LiteralFaultOf}
use Rattle.js_literal.specs.Number.{NumberOf, NumberFaultOf}
use Rattle.js_literal.specs.declared.fault.LiteralFault.{LiteralFault}
use Rattle.js_literal.specs.declared.fault.NumberFault.{NumberFault}
use Rattle.js_literal.proofs.Places.{cut_stands}
use Rattle.js_literal.proofs.Laws.{some_literal}
use Rattle.js_literal.proofs.NumberLaws.{some_number}
use Rattle.js_lex.specs.Tokens.{Element, End, Skip, TokenOf, Fault, ElementAt, string, string_fault, number, number_fault, Lexes, done, skip, token, FailsFrom}
use Rattle.js_lex.specs.Tokens.{fault, skip_on, token_on, TokensOf, LexFaultOf, no_text, in_text}
use Rattle.js_lex.specs.Reader.{Lookahead, front, token_at}
use Rattle.js_lex.specs.Reader as ahead
use Rattle.js_lex.specs.declared.token.Token.{Token}
use Rattle.js_lex.specs.declared.token.TokenKind.TheVariants as kinds
use Rattle.js_lex.specs.declared.token.LexFault.{LexFault}
use Rattle.js_lex.specs.declared.token.LexFault.TheVariants as faults
use Rattle.js_lex.proofs.Steps.{skip_gone, word_gone, mark_gone, end_element, open_element, bad_element, quote_begins, number_starts}
use Rattle.js_lex.proofs.Spans.{Forward, forward}

-- something stands at each place where the text may be cut
some_element : (text : List ℕ) (at : ℕ) → IsUtf8 text → IsCharBoundary text at → (m : Element) × ElementAt text at m
some_element text at u cut = go (front s) refl
  where
    s : List ℕ
    s = chars (drop at text)

    here : StandsAt text at s
    here = cut_stands text at u cut

    literal : ((us : List ℕ) × (end : ℕ) × LiteralOf text at us end) ⊎ ((f : LiteralFault) × LiteralFaultOf text at f) → (m : Element) × ElementAt text at m
    literal (inl h) = (TokenOf (kinds.Text (h.0)) (h.1), string (h.0) (h.1) (h.2))
    literal (inr h) = (Fault (faults.Literal (h.0)), string_fault (h.0) (h.1))

    digits : ((v : ℕ) × (end : ℕ) × NumberOf text at v end) ⊎ ((f : NumberFault) × NumberFaultOf text at f) → (m : Element) × ElementAt text at m
    digits (inl h) = (TokenOf (kinds.Number (h.0)) (h.1), number (h.0) (h.1) (h.2))
    digits (inr h) = (Fault (faults.Number (h.0)), number_fault (h.0) (h.1))

    left : List ℕ → ℕ
    left rest = length (encode_utf8_all rest)

    go : (g : Lookahead) → front s ≡ g → (m : Element) × ElementAt text at m
    go ahead.End e = (End, end_element text at s here (sym e))
    go ahead.Open e = (Fault (faults.OpenComment at), open_element text at s here (sym e))
    go ahead.Bad e = (Fault (faults.BadCharacter at), bad_element text at s here (sym e))
    go ahead.Quote e = literal (some_literal text at u (quote_begins text at s u here (sym e)))
    go ahead.Number e = digits (some_number text at u (number_starts text at s u here (sym e)))
    go (ahead.Skip rest) e = (Skip (length text - left rest), (skip_gone text at s rest (left rest) u here (sym e) refl).move)
    go (ahead.Word rest) e = (TokenOf kinds.Word (length text - left rest), (word_gone text at s rest (left rest) u here (sym e) refl).move)
    go (ahead.MarkOf k rest) e = (TokenOf (kinds.Mark k) (length text - left rest), (mark_gone text at s rest k (left rest) u here (sym e) refl).move)

abbrev Answered : List ℕ → ℕ → Type 0
Answered text at = ((ts : List Token) × Lexes text at ts) ⊎ ((f : LexFault) × FailsFrom text at f)

-- from each such place on there are tokens or a fault; n bounds what is left
some_from : (n : ℕ) (text : List ℕ) (at : ℕ) → IsUtf8 text → IsCharBoundary text at → length text < at + n → at ≤ length text → Answered text at
some_from zero text at u cut l w = absurd (omega arith)
some_from (suc n) text at u cut l w = go (some_element text at u cut) (λ end c k v. some_from n text end u c k v)
  where
    go : (m : Element) × ElementAt text at m → ((end : ℕ) → IsCharBoundary text end → length text < end + n → end ≤ length text → Answered text end) → Answered text at
    go p later = by (p.0) (p.1) (forward text at (p.0) u (p.1))
      where
        by : (m : Element) → ElementAt text at m → Forward text at m → Answered text at
        by End h f = inl ([], done at h)
        by (Fault e) h f = inr (e, fault at e h)
        by (Skip end) h f = skipped (later end f.cut (omega (arith, l, f.later)) f.within)
          where
            skipped : Answered text end → Answered text at
            skipped (inl r) = inl (r.0, skip at end (r.0) h (r.1))
            skipped (inr r) = inr (r.0, skip_on at end (r.0) h (r.1))
        by (TokenOf k end) h f = taken (later end f.cut (omega (arith, l, f.later)) f.within)
          where
            taken : Answered text end → Answered text at
            taken (inl r) = inl (token_at k at end ∷ r.0, token at end k (r.0) h (r.1))
            taken (inr r) = inr (r.0, token_on at end k (r.0) h (r.1))

pub some_answer : (bytes : List ℕ) → ((ts : List Token) × TokensOf bytes ts) ⊎ ((f : LexFault) × LexFaultOf bytes f)
some_answer bytes = go (is_utf8 bytes) refl
  where
    of_text : IsUtf8 bytes → Answered bytes 0 → ((ts : List Token) × TokensOf bytes ts) ⊎ ((f : LexFault) × LexFaultOf bytes f)
    of_text u (inl r) = inl (r.0, record { utf8 = u; lexes = r.1 })
    of_text u (inr r) = inr (r.0, in_text (r.0) u (r.1))

    never : is_utf8 bytes ≡ false → IsUtf8 bytes → ⊥
    never e u = let t = is_utf8-from_IsUtf8 bytes u in absurd cc

    go : (t : Bool) → is_utf8 bytes ≡ t → ((ts : List Token) × TokensOf bytes ts) ⊎ ((f : LexFault) × LexFaultOf bytes f)
    go true e =
        let u = IsUtf8-from_is_utf8 bytes e in
        of_text u (some_from (length bytes + 1) bytes 0 u (IsCharBoundary-start bytes u) (omega arith) (omega arith))
    go false e = inr (faults.NotUtf8 (utf8_valid_len bytes), no_text (never e))
