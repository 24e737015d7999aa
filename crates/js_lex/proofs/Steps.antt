-- One step of the code.
use Rattle.std.proofs.Common.{◌≡◌, ℕ, ◌+◌, ◌-◌, ◌<◌, ◌≤◌, List, [], ◌∷◌, ◌++◌, length, get_or, Bool, true, false, Option, Some, None, nat_eq, refl, sym, ap, ◌∙◌, subst, arith, ◌⊎◌, inl, inr, Ok, Err}
use Rattle.std.proofs.lemmas.Bool.Decides.{nat_tests}
use Rattle.std.proofs.lemmas.List.{length-append}
use Rattle.std.specs.Prelude.{IsUtf8, encode_utf8_all, slice_index, ◌||◌, ◌&&◌}
use Rattle.std.proofs.lemmas.Str.{encodes-append, encodes-chars, encode_ascii}
use Rattle.std.proofs.Math.Seq.{get_or-append_seam}
use Rattle.js_literal.specs.Place.{StandsAt}
use Rattle.js_literal.specs.Literal.{is_quote, is_digit, LiteralOf, LiteralFaultOf, BeginsString}
use Rattle.js_literal.specs.Number.{NumberOf, BeginsNumber, begins_number, number_at}
use Rattle.js_literal.proofs.Places.{moved, left_stands, left_fits, one_byte}
use Rattle.js_literal.proofs.Pieces.{EndsIn, closed_ends}
use Rattle.js_literal.proofs.NumberLaws.{number_rest, digits_end}
use Rattle.js_lex.specs.MarkReader.{mark_front, one_front, two_front, three_front, or_else, with_rest, one_mark, two_mark, three_mark}
use Rattle.js_lex.specs.Reader.{Lookahead, front}
use Rattle.js_lex.specs.Reader as ahead
use Rattle.js_lex.specs.Steps.{IsForward, lex_fault}
use Rattle.js_literal.specs.declared.fault.LiteralFault.{LiteralFault}
use Rattle.js_literal.specs.declared.fault.LiteralFault.TheVariants as literals
use Rattle.js_lex.specs.Tokens.{Element, End, Skip, TokenOf, Fault, ElementAt, ended, blank, line, block, open_block, word, string_fault, number, mark, bad}
use Rattle.js_lex.specs.declared.token.Mark.{Mark}
use Rattle.js_lex.specs.declared.token.TokenKind.TheVariants as kinds
use Rattle.js_lex.specs.declared.token.LexFault.TheVariants as faults
use Rattle.js_lex.proofs.MarkLaws.{reads_longest}
use Rattle.js_lex.proofs.Moves.{Means, front_means, Behind, word_end, line_end, block_end, goes_forward}
use Rattle.js_literal.specs.declared.fault.NumberFault.TheVariants as numbers
use Rattle.js_literal.specs.Reader.{begins_digit}
use Rattle.js_literal.specs.NumberReader.{after_digits}

means : (s : List ℕ) (g : Lookahead) → g ≡ front s → Means s g
means s g e = subst (Means s) (sym e) (front_means s)

behind_end : (s rest : List ℕ) → Behind s rest → EndsIn s rest
behind_end s rest b = (b.0 ∷ b.1, b.2)

skip_behind : (s rest : List ℕ) → Means s (ahead.Skip rest) → Behind s rest
skip_behind s rest (inl m) = (m.0, [], m.1)
skip_behind s rest (inr (inl m)) = let e = line_end (m.0) in (47, 47 ∷ e.0, m.1 ∙ ap (λ r. 47 ∷ 47 ∷ r) (e.1 ∙ ap (λ r. e.0 ++ r) (sym (m.2))))
skip_behind s rest (inr (inr m)) = let e = block_end (m.0) rest (m.2) in (47, 42 ∷ e.0, m.1 ∙ ap (λ r. 47 ∷ 42 ∷ r) (e.1))

skip_element : (text : List ℕ) (at : ℕ) (s rest : List ℕ) (end : ℕ) → Means s (ahead.Skip rest) → StandsAt text at s → StandsAt text end rest → ElementAt text at (Skip end)
skip_element text at s rest end (inl m) h g = blank (m.0) rest end (subst (StandsAt text at) (m.1) h) (m.2) g
skip_element text at s rest end (inr (inl m)) h g = line (m.0) end (subst (StandsAt text at) (m.1) h) (subst (StandsAt text end) (m.2) g)
skip_element text at s rest end (inr (inr m)) h g = block (m.0) rest end (subst (StandsAt text at) (m.1) h) (m.2) g

-- an element up to where so many bytes are left
pub record Gone (text : List ℕ) (at left : ℕ) (m : ℕ → Element) : Type 0 where
  pub fits : left ≤ length text
  pub move : ElementAt text at (m (length text - left))
  pub forward : IsForward text at (length text - left)

gone : (text : List ℕ) (at : ℕ) (s rest : List ℕ) (left : ℕ) (m : ℕ → Element) → IsUtf8 text → StandsAt text at s → Behind s rest → length
    (encode_utf8_all rest) ≡ left → ((end : ℕ) → StandsAt text end rest → ElementAt text at (m end)) → Gone text at left m
gone text at s rest left m u h b l k =
    let e = behind_end s rest b in
    let g = left_stands text at s rest left u h e l in
    record {
      fits = left_fits text at s rest left u h e l;
      move = k (length text - left) g;
      forward = goes_forward text at (length text - left) s rest u h g b;
    }

pub skip_gone : (text : List ℕ) (at : ℕ) (s rest : List ℕ) (left : ℕ) → IsUtf8 text → StandsAt text at s → ahead.Skip rest ≡ front s →
    length (encode_utf8_all rest) ≡ left → Gone text at left (λ end. Skip end)
skip_gone text at s rest left u h e l =
    let m = means s (ahead.Skip rest) e in
    gone text at s rest left (λ end. Skip end) u h (skip_behind s rest m) l (λ end g. skip_element text at s rest end m h g)

pub word_gone : (text : List ℕ) (at : ℕ) (s rest : List ℕ) (left : ℕ) → IsUtf8 text → StandsAt text at s → ahead.Word rest ≡ front s →
    length (encode_utf8_all rest) ≡ left → Gone text at left (λ end. TokenOf kinds.Word end)
word_gone text at s rest left u h e l =
    let m = means s (ahead.Word rest) e in
    let w = word_end (m.1) in
    gone text at s rest left (λ end. TokenOf kinds.Word end) u h (m.0, w.0, m.2 ∙ ap (λ r. m.0 ∷ r) (w.1 ∙ ap (λ r. w.0 ++ r) (sym (m.4)))) l
    (λ end g. word (m.0) (m.1) end (subst (StandsAt text at) (m.2) h) (m.3) (subst (StandsAt text end) (m.4) g))

with_some : (s rest : List ℕ) (m : Mark) (o : Option Mark) → with_rest s o ≡ Some (m, rest) → s ≡ rest
with_some s rest m None h = absurd cc
with_some s rest m (Some k) h = ap rest_of (pair_same (k, s) (m, rest) h)
  where
    rest_of : Mark × List ℕ → List ℕ
    rest_of p = p.1

    pair_same : (p q : Mark × List ℕ) → Some p ≡ Some q → p ≡ q
    pair_same p q h = cc

pub mark_behind : (s rest : List ℕ) (m : Mark) → mark_front s ≡ Some (m, rest) → Behind s rest
unfolding mark_front
mark_behind s rest m h = go (three_front s) (two_front s) refl refl h
  where
    three : (s : List ℕ) → three_front s ≡ Some (m, rest) → Behind s rest
    three [] h = absurd cc
    three (a ∷ []) h = absurd cc
    three (a ∷ b ∷ []) h = absurd cc
    three (a ∷ b ∷ c ∷ s) h = (a, b ∷ c ∷ [], ap (λ r. a ∷ b ∷ c ∷ r) (with_some s rest m (three_mark a b c) h))

    two : (s : List ℕ) → two_front s ≡ Some (m, rest) → Behind s rest
    two [] h = absurd cc
    two (a ∷ []) h = absurd cc
    two (a ∷ b ∷ s) h = (a, b ∷ [], ap (λ r. a ∷ b ∷ r) (with_some s rest m (two_mark a b) h))

    one : (s : List ℕ) → one_front s ≡ Some (m, rest) → Behind s rest
    one [] h = absurd cc
    one (a ∷ s) h = (a, [], ap (λ r. a ∷ r) (with_some s rest m (one_mark a) h))

    go : (x y : Option (Mark × List ℕ)) → three_front s ≡ x → two_front s ≡ y → or_else x (or_else y (one_front s)) ≡ Some (m, rest) → Behind s rest
    go (Some p) y ex ey h = three s (ex ∙ h)
    go None (Some p) ex ey h = two s (ey ∙ h)
    go None None ex ey h = one s h

pub mark_gone : (text : List ℕ) (at : ℕ) (s rest : List ℕ) (k : Mark) (left : ℕ) → IsUtf8 text → StandsAt text at s → ahead.MarkOf k rest ≡
    front s → length (encode_utf8_all rest) ≡ left → Gone text at left (λ end. TokenOf (kinds.Mark k) end)
mark_gone text at s rest k left u h e l =
    let m = means s (ahead.MarkOf k rest) e in
    gone text at s rest left (λ end. TokenOf (kinds.Mark k) end) u h (mark_behind s rest k (m.1)) l
    (λ end g. mark s k rest end h (m.0) (reads_longest s rest k (m.1)) g)

pub end_element : (text : List ℕ) (at : ℕ) (s : List ℕ) → StandsAt text at s → ahead.End ≡ front s → ElementAt text at End
end_element text at s h e = ended (subst (StandsAt text at) (means s ahead.End e) h)

pub open_element : (text : List ℕ) (at : ℕ) (s : List ℕ) → StandsAt text at s → ahead.Open ≡ front s → ElementAt text at (Fault (faults.OpenComment at))
open_element text at s h e = let m = means s ahead.Open e in open_block (m.0) (subst (StandsAt text at) (m.1) h) (m.2)

pub bad_element : (text : List ℕ) (at : ℕ) (s : List ℕ) → StandsAt text at s → ahead.Bad ≡ front s → ElementAt text at (Fault (faults.BadCharacter at))
bad_element text at s h e = let m = means s ahead.Bad e in bad (m.0) (m.1) (subst (StandsAt text at) (m.2) h) (m.3)

-- an ASCII character is a byte
byte_at : (text : List ℕ) (at c : ℕ) (s : List ℕ) → IsUtf8 text → StandsAt text at (c ∷ s) → c < 128 → (at < length text) × (slice_index text at ≡ c)
byte_at text at c s u h lt =
    let whole : text ≡ encode_utf8_all h.front ++ (c ∷ encode_utf8_all s) = sym (encodes-chars text u) ∙
    (ap encode_utf8_all h.whole ∙ (encodes-append h.front (c ∷ s) ∙ ap (λ e. encode_utf8_all h.front ++ (e ++ encode_utf8_all s)) (encode_ascii c lt))) in (
      omega (arith, ap length whole, length-append (encode_utf8_all h.front) (c ∷ encode_utf8_all s), h.bytes),
      ap (λ t. slice_index t at) whole ∙ (ap (λ p. slice_index (encode_utf8_all h.front ++ (c ∷ encode_utf8_all s)) p) (sym h.bytes) ∙ seam (encode_utf8_all h.front) c (encode_utf8_all s)),
    )
  where
    seam : (xs : List ℕ) (c : ℕ) (ys : List ℕ) → get_or (xs ++ (c ∷ ys)) (length xs) 0 ≡ c
    seam xs c ys = get_or-append_seam xs c ys 0

quote_small : (c : ℕ) → is_quote c ≡ true → c < 128
quote_small c h = grind (arith, nat_tests)

pub quote_begins : (text : List ℕ) (at : ℕ) (s : List ℕ) → IsUtf8 text → StandsAt text at s → ahead.Quote ≡ front s → BeginsString text at
quote_begins text at s u h e =
    let m = means s ahead.Quote e in
    let b = byte_at text at (m.0) (m.1) u (subst (StandsAt text at) (m.2) h) (quote_small (m.0) (m.3)) in
    (b.0, ap is_quote (b.1) ∙ m.3)

digit_small : (c : ℕ) → is_digit c ≡ true → c < 128
digit_small c h = grind (arith, nat_tests)

last : (a b d : Bool) → b ≡ true → d ≡ true → (a || (b && d)) ≡ true
last true b d hb hd = refl
last false b d hb hd = rw (hb, hd) refl

number_byte : (text : List ℕ) (at : ℕ) (s : List ℕ) → IsUtf8 text → StandsAt text at s → begins_number s ≡ true → BeginsNumber text at
number_byte text at [] u h e = absurd cc
number_byte text at (c ∷ s) u h e = go (is_digit c) refl e
  where
    go : (d : Bool) → is_digit c ≡ d → (d || (nat_eq c 46 && begins_digit s)) ≡ true → BeginsNumber text at
    go true ed e =
        let b = byte_at text at c s u h (digit_small c ed) in
        (b.0, ap (λ k. is_digit k || (nat_eq k 46 && is_digit (slice_index text (at + 1)))) (b.1) ∙ ap (λ t. t || (nat_eq c 46 && is_digit (slice_index text (at + 1)))) ed)
    go false ed e = point s h e
      where
        point : (s : List ℕ) → StandsAt text at (c ∷ s) → (nat_eq c 46 && begins_digit s) ≡ true → BeginsNumber text at
        point [] h e = absurd (grind arith)
        point (d ∷ s) h e =
            let ec : nat_eq c 46 ≡ true = grind arith in
            let edd : is_digit d ≡ true = grind arith in
            let small : c < 128 = grind (arith, nat_tests) in
            let b = byte_at text at c (d ∷ s) u h small in
            let next = subst (λ p. StandsAt text p (d ∷ s)) (one_byte at c small) (moved text at (c ∷ d ∷ s) (d ∷ s) h (c ∷ [], refl)) in
            let b2 = byte_at text (at + 1) d s u next (digit_small d edd) in
            let dot : nat_eq (slice_index text at) 46 ≡ true = ap (λ k. nat_eq k 46) (b.1) ∙ ec in
            let digit : is_digit (slice_index text (at + 1)) ≡ true = ap is_digit (b2.1) ∙ edd in
            (b.0, last (is_digit (slice_index text at)) (nat_eq (slice_index text at) 46) (is_digit (slice_index text (at + 1))) dot digit)

pub number_starts : (text : List ℕ) (at : ℕ) (s : List ℕ) → IsUtf8 text → StandsAt text at s → ahead.Number ≡ front s → BeginsNumber text at
number_starts text at s u h e = number_byte text at s u h (means s ahead.Number e)

pub literal_forward : (text : List ℕ) (at : ℕ) (us : List ℕ) (end : ℕ) → IsUtf8 text → LiteralOf text at us end → IsForward text at end
literal_forward text at us end u h =
    let e = closed_ends h.q h.s us h.rest h.closed in
    goes_forward text at end (h.q ∷ h.s) h.rest u h.starts h.ends (h.q, e.0, ap (λ r. h.q ∷ r) (e.1))

pub number_behind : (s rest : List ℕ) (v : ℕ) → begins_number s ≡ true → number_at s ≡ Ok (v, rest) → Behind s rest
number_behind [] rest v b h = absurd cc
number_behind (c ∷ s) rest v b h = go (is_digit c) refl (nat_eq c 46) refl h (number_rest (c ∷ s) rest v h)
  where
    go : (d : Bool) → is_digit c ≡ d → (p : Bool) → nat_eq c 46 ≡ p → number_at (c ∷ s) ≡ Ok (v, rest) → rest ≡ after_digits (c ∷ s) → Behind (c ∷ s) rest
    go true ed p ep h e =
        let f : after_digits (c ∷ s) ≡ after_digits s = rw ed refl in
        let g = digits_end s in
        (c, g.0, ap (λ r. c ∷ r) (g.1 ∙ ap (λ r. g.0 ++ r) (sym f ∙ sym e)))
    go false ed true ep h e = let f : number_at (c ∷ s) ≡ Err numbers.Fraction = rw ep refl in absurd cc
    go false ed false ep h e = let f : begins_number (c ∷ s) ≡ false = rw (ed, ep) refl in absurd cc

pub number_forward : (text : List ℕ) (at v end : ℕ) → IsUtf8 text → NumberOf text at v end → ElementAt text at (TokenOf (kinds.Number v) end) × IsForward text at end
number_forward text at v end u n = (number v end n, goes_forward text at end n.s n.rest u n.starts n.ends (number_behind n.s n.rest v n.begins n.reads))

pub fault_element : (text : List ℕ) (at : ℕ) (f : LiteralFault) → (f ≡ literals.Memory) ⊎ LiteralFaultOf text at f → (lex_fault f ≡ faults.Memory) ⊎ ElementAt text at (Fault (lex_fault f))
fault_element text at literals.Memory h = inl refl
fault_element text at (literals.Unclosed p) (inl e) = absurd cc
fault_element text at (literals.Unclosed p) (inr g) = inr (string_fault (literals.Unclosed p) g)
fault_element text at (literals.RawLineEnd p) (inl e) = absurd cc
fault_element text at (literals.RawLineEnd p) (inr g) = inr (string_fault (literals.RawLineEnd p) g)
fault_element text at (literals.BadEscape p) (inl e) = absurd cc
fault_element text at (literals.BadEscape p) (inr g) = inr (string_fault (literals.BadEscape p) g)
fault_element text at (literals.CodePointTooLarge p) (inl e) = absurd cc
fault_element text at (literals.CodePointTooLarge p) (inr g) = inr (string_fault (literals.CodePointTooLarge p) g)
fault_element text at (literals.LegacyOctal p) (inl e) = absurd cc
fault_element text at (literals.LegacyOctal p) (inr g) = inr (string_fault (literals.LegacyOctal p) g)
