-- Where characters are in a text of UTF-8.
use Rattle.std.specs.Prelude.{◌≡◌, ℕ, List, ◌++◌, length, encode_utf8_all}
use Rattle.std.specs.Str.{chars}

-- from byte at of the text on, its characters are cs; no characters are at a byte within one
pub record StandsAt (text : List ℕ) (at : ℕ) (cs : List ℕ) : Type 0 where
  pub front : List ℕ
  pub whole : chars text ≡ front ++ cs
  pub bytes : length (encode_utf8_all front) ≡ at
