-- Helpers: no public contract reaches these definitions.
-- The code point at a place of a string (ECMA-262, "CodePointAt"), and what walking over a window leaves.
use Rattle.std.specs.Prelude.{◌≡◌, ℕ, ◌+◌, ◌*◌, ◌<◌, ◌≤◌, Bool, false, if◌then◌else◌, List, ◌∷◌, length}
use Rattle.std.specs.Prelude.{drop, Some}
use Rattle.std.specs.Char.{len_utf8}
use Rattle.js_units.specs.Text.{alone, points}
use Rattle.heap_rule.specs.declared.view.View.{View}
use Rattle.heap_read.specs.Reads.{KeepsForms, OnlyLoads}
use Rattle.heap_export.specs.declared.faults.Unpaired.{Unpaired}
use Rattle.heap_export.specs.declared.faults.Unpaired.TheVariants.{Refuse, Keep}
use Rattle.heap_export.specs.declared.points.Point.{Point}
use Rattle.heap_export.specs.Encoded.{is_unpaired, unpaired}

-- p is the code point at place i, with the number of its units
pub record IsPointAt (us : List ℕ) (i : ℕ) (p : Point) : Type 0 where
  pub some : 1 ≤ p.count
  pub within : i + p.count ≤ length us
  pub value : points (drop i us) ≡ p.value ∷ points (drop (i + p.count) us)
  pub unpaired : unpaired i (drop i us)
      ≡ (if is_unpaired p.value then Some i else unpaired (i + p.count) (drop (i + p.count) us))
  pub short : len_utf8 p.value ≤ 3 * p.count
  pub range : p.value < 0x110000

-- the code point that is written for one of the string
abbrev pub written : Unpaired → ℕ → ℕ
written Keep c = c
written _ c = alone c

-- whether it is refused
abbrev pub is_refused : Unpaired → ℕ → Bool
is_refused Refuse c = is_unpaired c
is_refused _ c = false

-- a call that loads content words alone
pub record LoadsWords (v w : View) : Type 0 where
  pub reads : OnlyLoads v w
  pub forms : KeepsForms v w
