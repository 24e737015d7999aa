-- Helpers: no public contract reaches these definitions.
-- A string that may be too long, by numbers in the place of a row.
use Rattle.std.specs.Prelude.{ℕ, List, [], length, nat_le, if◌then◌else◌}
use Rattle.eval_values.specs.declared.value.Kind.{Kind}
use Rattle.eval_values.specs.declared.value.Kind.TheVariants.{RangeError}
use Rattle.js_item.specs.Seen.{Val}
use Rattle.js_item.specs.Contents.{text}
use Rattle.eval_values.specs.Outcome.{Out, gave, ended, threw, texts_of}

-- the value of an expression, which needs so much
abbrev pub gives : Val → ℕ → ℕ → Out Val
gives v ids words = gave v (record { interned = []; texts = texts_of v; ids = ids; words = words })

abbrev pub throws : Kind → ℕ → ℕ → Out Val
throws k ids words = ended (threw k) (record { interned = []; texts = []; ids = ids; words = words })

-- a string, unless it is longer than a string may be; it needs so many ids, and words by the units of the
-- result, of which there are none where it throws
abbrev pub within : ℕ → ℕ → (ℕ → ℕ) → List ℕ → Out Val
within limit ids words w =
    if nat_le (length w) limit
    then gives (text w) ids (words (length w))
    else throws RangeError ids (words 0)
