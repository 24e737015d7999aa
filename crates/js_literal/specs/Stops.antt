-- Helpers: no public contract reaches these definitions.
-- Why the inside of a string literal isn't read, for the contracts of private functions.
use Rattle.std.specs.Prelude.{◌≡◌, ℕ, List, length, encode_utf8_all}
use Rattle.js_literal.specs.Literal.{IsBroken}
use Rattle.js_literal.specs.Reader.{kind_of}
use Rattle.js_literal.specs.declared.string.StringStop.{StringStop}
use Rattle.js_literal.specs.declared.string.StringStop.TheVariants as stops

abbrev pub IsStop : ℕ → List ℕ → StringStop → Type 0
IsStop q s (stops.Broken t left) =
    (rest : List ℕ) × IsBroken q s (kind_of t) rest × (length (encode_utf8_all rest) ≡ left)
IsStop q s stops.Memory = Unit {0}
