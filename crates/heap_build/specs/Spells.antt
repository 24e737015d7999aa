-- Helpers: no public contract reaches these definitions.
-- What bytes spell, by their encoding.
use Rattle.std.specs.Prelude.{ℕ, List}
use Rattle.heap_bytes.specs.declared.encoding.Encoding.{Encoding}
use Rattle.heap_bytes.specs.declared.encoding.Encoding.TheVariants.{Utf8, Wtf8}
use Rattle.heap_build.specs.Spelled.{SpellsUtf8, SpellsWtf8}

-- which units bytes spell
abbrev pub spells : Encoding → List ℕ → List ℕ → Type 0
spells Utf8 = SpellsUtf8
spells Wtf8 = SpellsWtf8
