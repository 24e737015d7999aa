-- Units with each escape as what it denotes (ECMA-262, "Decode").
use Rattle.std.specs.Prelude.{ℕ, zero, suc, ◌+◌, ◌-◌, ◌*◌, ◌%◌, Bool, nat_lt, nat_le, not, ◌&&◌, ◌||◌, ◌==◌}
use Rattle.std.specs.Prelude.{if◌then◌else◌, List, [], ◌∷◌, take, drop, length, Option, Some, None, Ok, Err}
use Rattle.std.specs.Prelude.{encode_utf8, bytes_eq, fold}
use Rattle.std.specs.Option.{option_map, option_map_or, option_and_then}
use Rattle.js_units.specs.Text.{is_lead, is_trail, utf16_of}
use Rattle.js_uri.specs.Outcome.{UriOutcome, uri_after}

-- the value of a hexadecimal digit, of either case
abbrev pub digit : ℕ → Option ℕ
digit u = if nat_le 0x30 u && nat_le u 0x39 then Some (u - 0x30)
    else if nat_le 0x41 u && nat_le u 0x46 then Some (u - 0x37)
    else if nat_le 0x61 u && nat_le u 0x66 then Some (u - 0x57) else None

-- the byte of the escape that the units begin with, which is % and two digits
abbrev pub escaped_byte : List ℕ → Option ℕ
escaped_byte (p ∷ x ∷ y ∷ us) =
    if p == 0x25 then option_and_then (λ h. option_map (λ l. h * 16 + l) (digit y)) (digit x) else None
escaped_byte _ = None

-- the bytes of n escapes that the units begin with
abbrev pub escaped_bytes : ℕ → List ℕ → Option (List ℕ)
escaped_bytes zero us = Some []
escaped_bytes (suc n) us =
    option_and_then (λ b. option_map (λ bs. b ∷ bs) (escaped_bytes n (drop 3 us))) (escaped_byte us)

-- how many bytes UTF-8 asks for where the first is this one of 80 or more, which is as many as it has leading
-- bits of 1; no sequence begins with one of 80 to BF, or of F8 or more
abbrev pub sequence_len : ℕ → ℕ
sequence_len b = if nat_lt b 0xC0 then 1 else if nat_lt b 0xE0 then 2 else if nat_lt b 0xF0 then 3 else 4

-- the bits of a code point that its first byte holds in a sequence of n bytes
abbrev pub first_bits : ℕ → ℕ → ℕ
first_bits n b = if nat_lt n 3 then b % 32 else if nat_lt n 4 then b % 16 else b % 8

-- those of all its bytes, of which each other one holds six
abbrev pub bits : List ℕ → ℕ
bits [] = 0
bits (b ∷ bs) = fold (λ c d. c * 64 + d % 64) (first_bits (length (b ∷ bs)) b) bs

-- Unicode's scalar values
abbrev pub is_scalar : ℕ → Bool
is_scalar c = nat_lt c 0x110000 && not (is_lead c || is_trail c)

-- the code point whose UTF-8 the bytes are, where they are well formed: no surrogate, at most 10FFFF,
-- and in as few bytes as can be
abbrev pub spelled_by : List ℕ → ℕ → Option ℕ
spelled_by bs c = if is_scalar c && bytes_eq (encode_utf8 c) bs then Some c else None

-- units that denote others: the others, and how many units these are
pub record DecodedPart : Type 0 where
  pub units : List ℕ
  pub taken : ℕ

-- the escape of a byte below 80, or those that spell a code point in UTF-8
abbrev pub escaped_part : (ℕ → Bool) → List ℕ → Option ℕ → Option DecodedPart
escaped_part hold us None = None
escaped_part hold us (Some b) =
    if nat_lt b 0x80 then Some (record { units = if hold b then take 3 us else b ∷ []; taken = 3 })
    else option_map (λ c. record { units = utf16_of c; taken = 3 * sequence_len b })
    (option_and_then (λ bs. spelled_by bs (bits bs)) (escaped_bytes (sequence_len b) us))

-- the first part of units; nothing where it is malformed
abbrev pub first_part : (ℕ → Bool) → List ℕ → Option DecodedPart
first_part hold [] = None
first_part hold (u ∷ us) = if u == 0x25 then escaped_part hold (u ∷ us) (escaped_byte (u ∷ us))
    else Some (record { units = u ∷ []; taken = 1 })

-- the units from the front, the first n passed over
abbrev pub decoded_behind : (ℕ → Bool) → ℕ → List ℕ → UriOutcome
decoded_behind hold n [] = Ok []
decoded_behind hold zero (u ∷ us) = option_map_or
    (λ p. uri_after p.taken p.units (decoded_behind hold (p.taken - 1) us)) (first_part hold (u ∷ us)) (Err 0)
decoded_behind hold (suc n) (u ∷ us) = decoded_behind hold n us

-- the units decoded; malformed at the % of the first escape that isn't whole, or of the first
-- sequence that isn't well-formed UTF-8
abbrev pub decoded : List ℕ → (ℕ → Bool) → UriOutcome
decoded us hold = decoded_behind hold 0 us
