-- The key of a name, by which most names are distinguished, and all of up to seven bytes.
use Rattle.std.specs.Prelude.{ℕ, ◌+◌, ◌*◌, ◌%◌, ◌<◌, List, [], ◌∷◌, slice_index}

abbrev pub key_of : List ℕ → ℕ
key_of [] = 0
key_of (b ∷ bs) = key_of bs % 36028797018963968 * 261 + b + 1

-- each of them is a byte
abbrev pub AreBytes : List ℕ → Type 0
AreBytes bs = (i : ℕ) → slice_index bs i < 256
