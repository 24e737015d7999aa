-- The parts that the methods cut out.
use Rattle.std.specs.Prelude.{ℕ, ◌+◌, min, max, List, length, Option, slice_range}
use Rattle.std.specs.Option.{option_map_or}
use Rattle.js_number.specs.declared.Num.{Num}
use Rattle.js_number.specs.Places.{clamped, relative}

-- "String.prototype.slice": the part from start to before end, empty where start isn't before end; an end
-- that isn't given is that of the string
abbrev pub slice_of : List ℕ → Num → Option Num → List ℕ
slice_of u start end = slice_range u (relative start (length u))
    (option_map_or (λ e. relative e (length u)) end (length u))

-- a place of a string of n units; an end that isn't given is that of the string
abbrev pub clamped_end : Option Num → ℕ → ℕ
clamped_end end n = option_map_or (λ e. clamped e n) end n

-- "String.prototype.substring": both places clamped, the part from the smaller to the larger
abbrev pub substring_of : List ℕ → Num → Option Num → List ℕ
substring_of u start end = slice_range u (min (clamped start (length u)) (clamped_end end (length u)))
    (max (clamped start (length u)) (clamped_end end (length u)))

-- "String.prototype.substr": so many units from start on, all where it isn't given,
-- at most those that are there
abbrev pub substr_of : List ℕ → Num → Option Num → List ℕ
substr_of u start count = slice_range u (relative start (length u))
    (min (relative start (length u) + clamped_end count (length u)) (length u))
