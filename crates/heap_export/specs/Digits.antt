-- Helpers: no public contract reaches these definitions.
-- How an array index is read from its digits.
use Rattle.std.specs.Prelude.{ℕ, ◌+◌, ◌-◌, ◌*◌, Bool, false, not, ◌&&◌, ◌||◌, ◌==◌, nat_eq, nat_le}
use Rattle.std.specs.Prelude.{if◌then◌else◌, List, [], ◌∷◌, length, Option, Some, None}
use Rattle.std.specs.Str.{all_ascii_digits}

-- the number that digits denote, behind one that was read
abbrev pub read_on : ℕ → List ℕ → ℕ
read_on n [] = n
read_on n (u ∷ us) = read_on (n * 10 + (u - 48)) us

-- one to ten decimal digits, with no zero in front of others
abbrev pub has_form : List ℕ → Bool
has_form [] = false
has_form (u ∷ us) =
    (not (u == 48) || nat_eq (length us) 0) && nat_le (length us) 9 && all_ascii_digits (u ∷ us)

-- the number, where it is below 2^32 - 1
abbrev pub index_read : List ℕ → Option ℕ
index_read us = if has_form us && nat_le (read_on 0 us) 4294967294 then Some (read_on 0 us) else None
