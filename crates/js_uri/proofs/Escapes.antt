-- The escapes of bytes.
use Rattle.std.proofs.Common.{◌≡◌, ℕ, ◌*◌, List, [], ◌∷◌, length, Bool, true, false, Some, None, arith, ap, inl, inr, length-append}
use Rattle.std.specs.Prelude.{◌||◌, option_map, encode_utf8, flat_map, if◌then◌else◌}
use Rattle.std.specs.Char.{InScalarRange}
use Rattle.std.proofs.lemmas.Bool.{and_left, and_right, or_from, lt-leb, le-ltb}
use Rattle.js_units.specs.Text.{is_lead, is_trail, utf16_of}
use Rattle.js_uri.specs.Encoding.{escape, encoded_point}
use Rattle.js_uri.specs.Steps.{escapes}

pub length-escapes : (bs : List ℕ) → length (flat_map escape bs) ≡ 3 * length bs
length-escapes [] = omega arith
length-escapes (b ∷ bs) = omega (arith, length-append (escape b) (flat_map escape bs), length-escapes bs)

escaped_by : (s k : Bool) (us vs : List ℕ) (n : ℕ) → s ≡ false → k ≡ false → n ≡ length vs → Some n ≡ option_map length (if s then None else if k then Some us else Some vs)
escaped_by true k us vs n h i e = cc
escaped_by false true us vs n h i e = cc
escaped_by false false us vs n h i e = ap Some e

-- three units for each byte of a code point that isn't kept
pub escaped_len : (keep : ℕ → Bool) (c n : ℕ) → (is_lead c || is_trail c) ≡ false → keep c ≡ false → n ≡ length (encode_utf8 c) → Some (3 * n) ≡ option_map length (encoded_point keep c)
escaped_len keep c n h i e = escaped_by (is_lead c || is_trail c) (keep c) (utf16_of c) (escapes c) (3 * n) h i (omega (arith, length-escapes (encode_utf8 c)))

-- a scalar value is no surrogate
pub scalar_apart : (c : ℕ) → InScalarRange c → (is_lead c || is_trail c) ≡ false
scalar_apart c (inl h) = or_from _ _ (and_left _ _ (lt-leb 0xD800 c h)) (and_left _ _ (lt-leb 0xDC00 c (omega arith)))
scalar_apart c (inr h) = or_from _ _ (and_right _ _ (le-ltb c 0xDC00 (let low = h.0 in omega arith))) (and_right _ _ (le-ltb c 0xE000 h.0))
