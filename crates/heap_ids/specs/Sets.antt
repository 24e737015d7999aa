-- What is in a set: number i where bit i % 64 of word i / 64 is 1.
use Rattle.std.specs.Prelude.{◌≡◌, ℕ, ◌+◌, ◌*◌, ◌/◌, ◌%◌, ◌≤◌, List, count_ones, length, slice_index}
use Rattle.std.specs.Prelude.{sum_by, take}
use Rattle.std.specs.Int.{bit_at}
use Rattle.heap_ids.specs.declared.ids.IdSet.{IdSet}

abbrev pub has_bit : List ℕ → ℕ → Type 0
has_bit words i = bit_at (slice_index words (i / 64)) (i % 64) ≡ 1

unfoldable pub IsIn : IdSet → ℕ → Type 0
IsIn set i = has_bit set.words.items i

-- how many numbers are in a set that has none above n: how many bits are 1 in the words up to that of n
unfoldable pub set_size : IdSet → ℕ → ℕ
set_size set n = sum_by count_ones (take (n / 64 + 1) set.words.items)

-- the numbers below n have room in it
unfoldable pub Covers : IdSet → ℕ → Type 0
Covers set n = n ≤ 64 * length set.words.items
