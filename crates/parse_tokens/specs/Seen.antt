-- Helpers: no public contract reaches these definitions.
-- Entries in order, seen as a finite map from lists of letters.
use Rattle.std.specs.Prelude.{ℕ, List, map}
use Rattle.std.specs.Ordering.{nat_cmp}
use Rattle.std.specs.Cmp.Lexicographic.{slice_cmp}
use Rattle.std.specs.FinMap.{FinMap, from_entries}

abbrev pub by_letters : {K : Type 0} → (K → List ℕ) → List (K × ℕ) → List (List ℕ × ℕ)
by_letters letters es = map (λ e. (letters e.0, e.1)) es

abbrev pub seen : {K : Type 0} → (K → List ℕ) → List (K × ℕ) → FinMap (slice_cmp nat_cmp) ℕ
seen letters es = from_entries (by_letters letters es)
