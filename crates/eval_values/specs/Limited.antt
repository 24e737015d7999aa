-- Strings that may be longer than a string may be. The operands of a call have t units.
use Rattle.std.specs.Prelude.{ℕ, ◌+◌, List, length, nat_le, if◌then◌else◌}
use Rattle.eval_values.specs.declared.value.Kind.TheVariants.{RangeError}
use Rattle.js_item.specs.Seen.{Val}
use Rattle.js_item.specs.Contents.{text}
use Rattle.eval_values.specs.Outcome.{Out, needing, throwing}
use Rattle.eval_values.specs.Need.{Row, reads}

-- a string, unless it is longer than a string may be, by the row of the operation, where its result has so
-- many units
abbrev pub bounded : ℕ → (ℕ → Row) → List ℕ → Out Val
bounded limit row w =
    if nat_le (length w) limit then needing (row (length w)) (text w) else throwing (row 0) RangeError

-- the same for an operation of one part
abbrev pub limited : ℕ → ℕ → List ℕ → Out Val
limited limit t w = bounded limit (λ r. reads (t + r)) w
