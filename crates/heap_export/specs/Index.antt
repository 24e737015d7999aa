-- Array indexes (ECMA-262, "array index"): the integers of 0 to 2^32 - 2 as property keys.
use Rattle.std.specs.Prelude.{◌≡◌, ℕ, ◌≤◌, List, Option, Some, None, decimal}

-- The array index that these units are: the number of which they are the text ("Number::toString"); None
-- where they are the text of no such number.
abbrev pub IsArrayIndex : List ℕ → Option ℕ → Type 0
IsArrayIndex us (Some n) = (n ≤ 4294967294) × (us ≡ decimal n)
IsArrayIndex us None = (n : ℕ) → n ≤ 4294967294 → ¬ (us ≡ decimal n)
