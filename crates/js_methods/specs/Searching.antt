-- What the methods give that look for one string in another.
use Rattle.std.specs.Prelude.{ℕ, ◌-◌, Bool, ◌&&◌, nat_le, List, length, Option, is_some}
use Rattle.js_number.specs.declared.Num.{Num}
use Rattle.js_number.specs.declared.Num.TheVariants.{NaN}
use Rattle.js_number.specs.Places.{clamped}
use Rattle.js_search.specs.Places.{stands, first, last}
use Rattle.js_methods.specs.Cutting.{clamped_end}

-- "String.prototype.indexOf": the least place, from the one that the number names on, at which w occurs
abbrev pub index_from : List ℕ → List ℕ → Num → Option ℕ
index_from u w from = first u w (clamped from (length u))

-- "String.prototype.includes": whether there is such a place
abbrev pub includes_from : List ℕ → List ℕ → Num → Bool
includes_from u w from = is_some (index_from u w from)

-- a limit that isn't a number is that of the string
abbrev pub limit_of : Num → ℕ → ℕ
limit_of NaN n = n
limit_of limit n = clamped limit n

-- "String.prototype.lastIndexOf": the greatest place, up to the one that the number names, at which w occurs
abbrev pub last_index_up_to : List ℕ → List ℕ → Num → Option ℕ
last_index_up_to u w limit = last u w (limit_of limit (length u))

-- "String.prototype.startsWith": whether w occurs at the place that the number names
abbrev pub starts_at : List ℕ → List ℕ → Num → Bool
starts_at u w from = stands u w (clamped from (length u))

-- "String.prototype.endsWith": whether w ends at the place that the number names
abbrev pub ends_at : List ℕ → List ℕ → Option Num → Bool
ends_at u w end = nat_le (length w) (clamped_end end (length u))
    && stands u w (clamped_end end (length u) - length w)
