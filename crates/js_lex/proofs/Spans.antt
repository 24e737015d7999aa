-- Spans lie in order, and hold the characters that they stand for.
use Rattle.std.proofs.Common.{◌≡◌, ℕ, ◌-◌, ◌≤◌, List, [], ◌∷◌, ◌++◌, length, take, drop, refl, sym, ap, ◌∙◌, arith}
use Rattle.std.proofs.lemmas.List.{length-append}
use Rattle.std.proofs.Math.Seq.{drop-append_seam, take-append_seam}
use Rattle.std.specs.Prelude.{IsUtf8, encode_utf8_all}
use Rattle.std.proofs.lemmas.Str.{encodes-append, encodes-chars}
use Rattle.js_literal.specs.Place.{StandsAt}
use Rattle.js_literal.proofs.Places.{bytes_of}
use Rattle.js_lex.specs.Tokens.{Element, End, Skip, TokenOf, Fault, ElementAt, ended, blank, line, block, open_block, word, string, string_fault, number}
use Rattle.js_lex.specs.Tokens.{number_fault, mark, bad, Lexes, done, skip, token}
use Rattle.js_lex.specs.Spans.{InOrder}
use Rattle.js_lex.specs.Steps.{IsForward}
use Rattle.js_lex.specs.declared.token.Token.{Token}
use Rattle.js_lex.proofs.MarkLaws.{longest_reads}
use Rattle.js_lex.proofs.Moves.{word_end, line_end, block_end, goes_forward}
use Rattle.js_lex.proofs.Steps.{literal_forward, number_behind, mark_behind}
use Rattle.js_lex.specs.Reader.{after_line, after_word}

-- how far an element reaches
abbrev pub Forward : List ℕ → ℕ → Element → Type 0
Forward text at (Skip end) = IsForward text at end
Forward text at (TokenOf k end) = IsForward text at end
Forward text at End = Unit {0}
Forward text at (Fault f) = Unit {0}

pub forward : (text : List ℕ) (at : ℕ) (m : Element) → IsUtf8 text → ElementAt text at m → Forward text at m
forward text at _ u (ended h) = tt
forward text at _ u (blank c s end h b e) = goes_forward text at end (c ∷ s) s u h e (c, [], refl)
forward text at _ u (line s end h e) = let w = line_end s in goes_forward text at end (47 ∷ 47 ∷ s) (after_line s) u h e (47, 47 ∷ w.0, ap (λ r. 47 ∷ 47 ∷ r) (w.1))
forward text at _ u (block s rest end h b e) = let w = block_end s rest b in goes_forward text at end (47 ∷ 42 ∷ s) rest u h e (47, 42 ∷ w.0, ap (λ r. 47 ∷ 42 ∷ r) (w.1))
forward text at _ u (open_block s h b) = tt
forward text at _ u (word c s end h b e) = let w = word_end s in goes_forward text at end (c ∷ s) (after_word s) u h e (c, w.0, ap (λ r. c ∷ r) (w.1))
forward text at _ u (string us end h) = literal_forward text at us end u h
forward text at _ u (string_fault f h) = tt
forward text at _ u (number v end h) = goes_forward text at end h.s h.rest u h.starts h.ends (number_behind h.s h.rest v h.begins h.reads)
forward text at _ u (number_fault f h) = tt
forward text at _ u (mark s k rest end h n b e) = goes_forward text at end s rest u h e (mark_behind s rest k (longest_reads s rest k b))
forward text at _ u (bad c s h b) = tt

earlier : (text : List ℕ) (at mid : ℕ) (ts : List Token) → at ≤ mid → InOrder text mid ts → InOrder text at ts
earlier text at mid [] le h = tt
earlier text at mid (t ∷ ts) le h = (omega (arith, h.0), h.1, h.2, h.3)

pub in_order : (text : List ℕ) (at : ℕ) (ts : List Token) → IsUtf8 text → Lexes text at ts → InOrder text at ts
in_order text _ _ u (done at h) = tt
in_order text _ _ u (skip at mid ts h t) = let f = forward text at (Skip mid) u h in earlier text at mid ts (omega (arith, f.later)) (in_order text mid ts u t)
in_order text _ _ u (token at mid k ts h t) = let f = forward text at (TokenOf k mid) u h in (omega arith, f.later, f.within, in_order text mid ts u t)

-- what stands between two places
pub span_of : (text : List ℕ) (a b : ℕ) (w rest : List ℕ) → IsUtf8 text → StandsAt text a (w ++ rest) → StandsAt text b rest → take (b - a) (drop a text) ≡ encode_utf8_all w
span_of text a b w rest u h g =
    let whole : text ≡ encode_utf8_all h.front ++ (encode_utf8_all w ++ encode_utf8_all rest) = sym (encodes-chars text u) ∙
    (ap encode_utf8_all h.whole ∙ (encodes-append h.front (w ++ rest) ∙ ap (λ e. encode_utf8_all h.front ++ e) (encodes-append w rest))) in
    let dropped : drop a text ≡ encode_utf8_all w ++ encode_utf8_all rest = ap (λ p. drop p text) (sym h.bytes) ∙
    (ap (drop (length (encode_utf8_all h.front))) whole ∙ drop-append_seam (encode_utf8_all h.front) (encode_utf8_all w ++ encode_utf8_all rest)) in
    let long : b - a ≡ length (encode_utf8_all w) = omega (
      arith,
      bytes_of text a (w ++ rest) u h,
      bytes_of text b rest u g,
      ap length
          (encodes-append w rest),
      length-append (encode_utf8_all w) (encode_utf8_all rest),
    ) in
    ap (λ t. take (b - a) t) dropped ∙ (ap (λ n. take n (encode_utf8_all w ++ encode_utf8_all rest)) long ∙ take-append_seam (encode_utf8_all w) (encode_utf8_all rest))
