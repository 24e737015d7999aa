-- Helpers: no public contract reaches these definitions.
-- One escape, one code point and one part at a time.
use Rattle.std.specs.Prelude.{ℕ, ◌-◌, ◌*◌, ◌+◌, Bool, if◌then◌else◌, List, [], ◌∷◌, take, Option}
use Rattle.std.specs.Prelude.{Err, encode_utf8, flat_map}
use Rattle.std.specs.Option.{option_map, option_map_or, option_and_then}
use Rattle.js_units.specs.Text.{utf16_of}
use Rattle.js_uri.specs.Outcome.{UriOutcome, uri_after}
use Rattle.js_uri.specs.Encoding.{escape}
use Rattle.js_uri.specs.Decoding.{bits, spelled_by, DecodedPart}

-- the byte of two digits
abbrev pub byte_of : Option ℕ → Option ℕ → Option ℕ
byte_of x y = option_and_then (λ h. option_map (λ l. h * 16 + l) y) x

abbrev pub cons_bytes : Option ℕ → Option (List ℕ) → Option (List ℕ)
cons_bytes b bs = option_and_then (λ c. option_map (λ cs. c ∷ cs) bs) b

-- the code point that bytes spell
abbrev pub utf8_point : Option (List ℕ) → Option ℕ
utf8_point bytes = option_and_then (λ bs. spelled_by bs (bits bs)) bytes

-- the escape of a byte below 80
abbrev pub ascii_part : (ℕ → Bool) → List ℕ → ℕ → DecodedPart
ascii_part hold us b = record { units = if hold b then take 3 us else b ∷ []; taken = 3 }

-- n escapes
abbrev pub point_part : ℕ → Option ℕ → Option DecodedPart
point_part n point = option_map (λ c. record { units = utf16_of c; taken = 3 * n }) point

-- a part, and what the units behind its first come to where so many of them are passed over
abbrev pub after_part : Option DecodedPart → (ℕ → UriOutcome) → UriOutcome
after_part part rest = option_map_or (λ p. uri_after p.taken p.units (rest (p.taken - 1))) part (Err 0)

-- n units that denote others only perhaps, and are malformed at the first of them if not
abbrev pub after_some : ℕ → Option (List ℕ) → UriOutcome → UriOutcome
after_some n units r = option_map_or (λ us. uri_after n us r) units (Err 0)

-- the bytes of the code point in UTF-8, each as an escape
abbrev pub escapes : ℕ → List ℕ
escapes c = flat_map escape (encode_utf8 c)
