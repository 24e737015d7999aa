-- Units with each code point outside a set as escapes (ECMA-262, "Encode").
use Rattle.std.specs.Prelude.{ℕ, ◌+◌, ◌/◌, ◌%◌, Bool, nat_lt, ◌||◌, if◌then◌else◌, List, [], ◌∷◌, length}
use Rattle.std.specs.Prelude.{Option, Some, None, Ok, Err, encode_utf8, flat_map}
use Rattle.std.specs.Option.{option_map_or}
use Rattle.js_units.specs.Text.{is_lead, is_trail, points, utf16_of}
use Rattle.js_uri.specs.Outcome.{UriOutcome, uri_after}

-- a hexadecimal digit, in upper case
abbrev pub upper_hex : ℕ → ℕ
upper_hex d = if nat_lt d 10 then 0x30 + d else 0x37 + d

-- % and the two digits of a byte
abbrev pub escape : ℕ → List ℕ
escape b = 0x25 ∷ upper_hex (b / 16) ∷ upper_hex (b % 16) ∷ []

-- what denotes a code point: its own units where it is to be kept, else the bytes of its UTF-8, each as an
-- escape; nothing for a surrogate that is in no pair
abbrev pub encoded_point : (ℕ → Bool) → ℕ → Option (List ℕ)
encoded_point keep c = if is_lead c || is_trail c then None
    else if keep c then Some (utf16_of c) else Some (flat_map escape (encode_utf8 c))

-- the code points from the front
abbrev pub encoded_points : (ℕ → Bool) → List ℕ → UriOutcome
encoded_points keep [] = Ok []
encoded_points keep (c ∷ cs) = option_map_or
    (λ us. uri_after (length (utf16_of c)) us (encoded_points keep cs)) (encoded_point keep c) (Err 0)

-- the units encoded; malformed at the first unpaired surrogate
abbrev pub encoded : List ℕ → (ℕ → Bool) → UriOutcome
encoded us keep = encoded_points keep (points us)
