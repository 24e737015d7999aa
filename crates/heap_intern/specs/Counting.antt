-- How many lists of units a history has.
use Rattle.std.specs.Prelude.{ℕ, zero, suc, ◌+◌, nat_eq, Bool, if◌then◌else◌}
use Rattle.std.specs.Cmp.Lexicographic.{pointwise}
use Rattle.std.specs.Map.{keys_of}
use Rattle.std.specs.Set.{distinct_count}
use Rattle.heap_rule.specs.Paths.{Calls}

-- the number of different lists of units in a history
unfoldable pub different : Calls → ℕ
different calls = distinct_count (pointwise nat_eq) (keys_of calls)

-- how many numbers below n pass a test
abbrev pub count_below : (ℕ → Bool) → ℕ → ℕ
count_below test zero = 0
count_below test (suc n) = count_below test n + (if test n then 1 else 0)
