-- Helpers: no public contract reaches these definitions.
-- Bytes that are read code point by code point.
use Rattle.std.specs.Prelude.{◌≡◌, ℕ, ◌+◌, Bool, true, false, List, ◌++◌, length, encode_utf8}
use Rattle.std.specs.Str.{chars}
use Rattle.heap_bytes.specs.declared.encoding.Encoding.{Encoding}
use Rattle.heap_bytes.specs.Points.{IsSpelled, may_follow, utf16}

-- no code point begins these bytes that may follow such a one
abbrev pub FollowsNone : Encoding → Bool → List ℕ → Type 0
FollowsNone e lead bytes =
    (c : ℕ) (rest : List ℕ) → may_follow e lead c ≡ true → ¬ (bytes ≡ encode_utf8 c ++ rest)

-- Bytes were read up to here: what spells code points behind what was read spells them behind the front, and
-- has so many units more.
pub record HasRead (e : Encoding) (bytes rest : List ℕ) (lead : Bool) (count : ℕ) : Type 0 where
  pub front : List ℕ
  pub split : bytes ≡ front ++ rest
  pub longer : (xs : List ℕ) → IsSpelled e lead xs → IsSpelled e false (front ++ xs)
  pub shorter : (xs : List ℕ) → IsSpelled e false (front ++ xs) → IsSpelled e lead xs
  pub units : (xs : List ℕ) → count + length (utf16 (chars xs)) ≡ length (utf16 (chars (front ++ xs)))
