-- Bytes and characters.
use Rattle.std.proofs.Common.{◌≡◌, ℕ, ◌+◌, ◌-◌, ◌<◌, ◌≤◌, List, [], ◌∷◌, ◌++◌, length, take, drop, sym, ap, ◌∙◌, subst, arith, append_assoc, add-one, drop-cons}
use Rattle.std.proofs.lemmas.List.{length-append, length-take, take-append-drop}
use Rattle.std.specs.Prelude.{encode_utf8_all, slice_index}
use Rattle.std.specs.Char.{encode_utf8}
use Rattle.std.specs.Str.{chars, IsUtf8, IsCharBoundary}
use Rattle.std.proofs.lemmas.Str.{encodes-chars, encodes-append, encode_ascii, length-encode, len_utf8_bounds, chars-append, chars_past_char, IsUtf8-take, IsUtf8-drop, IsCharBoundary-before_ascii}
use Rattle.js_literal.specs.Place.{StandsAt}
use Rattle.js_literal.proofs.Pieces.{EndsIn}

pub bytes_of : (text : List ℕ) (at : ℕ) (cs : List ℕ) → IsUtf8 text → StandsAt text at cs → length text ≡ at + length (encode_utf8_all cs)
bytes_of text at cs u h =
    let e : length (encode_utf8_all (chars text)) ≡ length text = ap length (encodes-chars text u) in
    let f : length (encode_utf8_all (chars text)) ≡ length (encode_utf8_all h.front ++ encode_utf8_all cs) = ap (λ x. length (encode_utf8_all x)) h.whole ∙ ap length (encodes-append h.front cs) in
    omega (arith, e, f, length-append (encode_utf8_all h.front) (encode_utf8_all cs), h.bytes)

pub moved : (text : List ℕ) (at : ℕ) (cs rest : List ℕ) → StandsAt text at cs → (e : EndsIn cs rest) → StandsAt text (at + length (encode_utf8_all (e.0))) rest
moved text at cs rest h e = record {
  front = h.front ++ e.0;
  whole = h.whole ∙ (ap (λ r. h.front ++ r) (e.1) ∙ sym (append_assoc h.front (e.0) rest));
  bytes = omega (arith, ap length (encodes-append h.front (e.0)), length-append (encode_utf8_all h.front) (encode_utf8_all (e.0)), h.bytes);
}

-- the place of what is left is told by its bytes
pub left_stands : (text : List ℕ) (at : ℕ) (cs rest : List ℕ) (left : ℕ) → IsUtf8 text → StandsAt text at cs → EndsIn cs rest → length
    (encode_utf8_all rest) ≡ left → StandsAt text (length text - left) rest
left_stands text at cs rest left u h e l =
    let m = moved text at cs rest h e in
    let b = bytes_of text (at + length (encode_utf8_all (e.0))) rest u m in
    let same : at + length (encode_utf8_all (e.0)) ≡ length text - left = omega (arith, b, l) in
    subst (λ p. StandsAt text p rest) same m

pub left_fits : (text : List ℕ) (at : ℕ) (cs rest : List ℕ) (left : ℕ) → IsUtf8 text → StandsAt text at cs → EndsIn cs rest → length (encode_utf8_all rest) ≡ left → left ≤ length text
left_fits text at cs rest left u h e l =
    let b = bytes_of text (at + length (encode_utf8_all (e.0))) rest u (moved text at cs rest h e) in
    omega (arith, b, l)

encodes_some : (c : ℕ) (cs : List ℕ) → length (encode_utf8_all (c ∷ cs)) ≡ 0 → ⊥
encodes_some c cs e =
    let b = len_utf8_bounds c in
    absurd (omega (arith, e, length-append (encode_utf8 c) (encode_utf8_all cs), length-encode c, b.0))

same_rest : (f g cs ds : List ℕ) → f ++ cs ≡ g ++ ds → length (encode_utf8_all f) ≡ length (encode_utf8_all g) → cs ≡ ds
same_rest [] [] cs ds e l = e
same_rest [] (c ∷ g) cs ds e l = absurd (encodes_some c g (sym l))
same_rest (c ∷ f) [] cs ds e l = absurd (encodes_some c f l)
same_rest (c ∷ f) (d ∷ g) cs ds e l =
    let h : c ≡ d = cc in
    let t : f ++ cs ≡ g ++ ds = cc in
    let m : length (encode_utf8_all f) ≡ length (encode_utf8_all g) = omega
    (arith, l, length-append (encode_utf8 c) (encode_utf8_all f), length-append (encode_utf8 d) (encode_utf8_all g), ap (λ x. length (encode_utf8 x)) h) in
    same_rest f g cs ds t m

-- one place has one rest, and one rest has one place
pub one_rest : (text : List ℕ) (at : ℕ) (cs ds : List ℕ) → StandsAt text at cs → StandsAt text at ds → cs ≡ ds
one_rest text at cs ds h g = same_rest h.front g.front cs ds (sym h.whole ∙ g.whole) (h.bytes ∙ sym g.bytes)

pub one_place : (text : List ℕ) (a b : ℕ) (cs : List ℕ) → IsUtf8 text → StandsAt text a cs → StandsAt text b cs → a ≡ b
one_place text a b cs u h g = omega (arith, bytes_of text a cs u h, bytes_of text b cs u g)

-- at a place where the text may be cut
pub cut_stands : (text : List ℕ) (at : ℕ) → IsUtf8 text → IsCharBoundary text at → StandsAt text at (chars (drop at text))
cut_stands text at u b =
    let front = IsUtf8-take text at u b in
    record {
      front = chars (take at text);
      whole = ap chars (sym (take-append-drop at text)) ∙ chars-append (take at text) (drop at text) front;
      bytes = ap length (encodes-chars (take at text) front) ∙ omega (arith, length-take {A = ℕ}, b.0);
    }

-- at an ASCII character
pub ascii_stands : (text : List ℕ) (at : ℕ) → IsUtf8 text → at < length text → slice_index text at < 128 → StandsAt text at (slice_index text at ∷ chars (drop (at + 1) text))
ascii_stands text at u lt small =
    let b = IsCharBoundary-before_ascii text at lt small in
    let split : drop at text ≡ encode_utf8 (slice_index text at) ++ drop (at + 1) text =
    rw (encode_ascii (slice_index text at) small) (drop-cons text at 0 lt ∙ ap (λ k. slice_index text at ∷ drop k text) (sym (add-one at))) in
    subst (StandsAt text at) (chars_past_char (drop at text) (drop (at + 1) text) (slice_index text at) (IsUtf8-drop text at u b) split) (cut_stands text at u b)

-- an ASCII character is one byte
pub one_byte : (at c : ℕ) → c < 128 → at + length (encode_utf8_all (c ∷ [])) ≡ at + 1
one_byte at c lt = ap (λ e. at + length (e ++ [])) (encode_ascii c lt)
