-- What the methods give that read at one place.
use Rattle.std.specs.Prelude.{ℕ, ◌+◌, ◌-◌, ◌&&◌, List, [], length, pos, negsuc, nat_lt, if◌then◌else◌}
use Rattle.std.specs.Prelude.{Option, Some, None, slice_index, slice_range}
use Rattle.std.specs.Option.{option_map, option_map_or}
use Rattle.js_units.specs.Text.{is_lead, is_trail, pair_value}
use Rattle.js_number.specs.declared.Num.{Num}
use Rattle.js_number.specs.declared.Num.TheVariants.{Int, NaN}

-- the place of n that the number names, where a negative one, which is -(k + 1) for `negsuc k`, has n added
abbrev pub relative_place : Num → ℕ → Option ℕ
relative_place (Int (pos k)) n = if nat_lt k n then Some k else None
relative_place (Int (negsuc k)) n = if nat_lt k n then Some (n - (k + 1)) else None
relative_place NaN n = if nat_lt 0 n then Some 0 else None
relative_place _ n = None

-- "String.prototype.at": the one unit at that place, if there is one
abbrev pub at_of : List ℕ → Num → Option (List ℕ)
at_of u i = option_map (λ k. slice_range u k (k + 1)) (relative_place i (length u))

-- the place of n that the number names without a conversion
abbrev pub exact_place : Num → ℕ → Option ℕ
exact_place (Int (pos k)) n = if nat_lt k n then Some k else None
exact_place NaN n = if nat_lt 0 n then Some 0 else None
exact_place _ n = None

-- "String.prototype.charAt": the one unit at that place, or the empty string
abbrev pub char_at_of : List ℕ → Num → List ℕ
char_at_of u i = option_map_or (λ k. slice_range u k (k + 1)) (exact_place i (length u)) []

-- "String.prototype.charCodeAt": the unit at that place as a number, or NaN
abbrev pub char_code_of : List ℕ → Num → Num
char_code_of u i = option_map_or (λ k. Int (pos (slice_index u k))) (exact_place i (length u)) NaN

-- "CodePointAt": the code point of a lead and the trail after it, and else the unit
abbrev pub code_point_from : List ℕ → ℕ → ℕ
code_point_from u k =
    if is_lead (slice_index u k) && nat_lt (k + 1) (length u) && is_trail (slice_index u (k + 1))
    then pair_value (slice_index u k) (slice_index u (k + 1)) else slice_index u k

-- "String.prototype.codePointAt"
abbrev pub code_point_of : List ℕ → Num → Option ℕ
code_point_of u i = option_map (code_point_from u) (exact_place i (length u))
