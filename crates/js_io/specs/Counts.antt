-- Counts of faults. A counter has 64 bits and stops at its last value.
use Rattle.std.specs.Prelude.{ℕ, ◌+◌, ◌-◌, ◌^◌, min}

-- the count after one more fault: one higher, or the last value of the counter
abbrev pub next_count : ℕ → ℕ
next_count before = min (before + 1) (2 ^ 64 - 1)
