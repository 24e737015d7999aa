-- The numbers that a table of 64 has for keys.
use Rattle.std.specs.Prelude.{◌≡◌, ℕ, ◌%◌, ◌<◌, ◌≤◌, List, slice_get, slice_index, Some}
use Rattle.eval_tree.specs.Keys.{key_of}

-- the number that a table has for a key
abbrev pub mark_number : List ℕ → ℕ → ℕ
mark_number table key = slice_index table (key % 64)

-- the number for each of the first i names is at most its place
abbrev pub AreFirsts : List ℕ → List (List ℕ) → ℕ → Type 0
AreFirsts table ns i =
    (j : ℕ) (n : List ℕ) → j < i → slice_get ns j ≡ Some n → mark_number table (key_of n) ≤ j
