-- Units that are in no string, as callers give them.
use Rattle.std.specs.Prelude.{ℕ, ◌≤◌, List, length}
use Rattle.heap_rule.specs.Layout.{MAX}
use Rattle.heap_bytes.specs.Spellings.{IsReadable, spelling_units}
use Rattle.heap_intern.specs.declared.table.key.Key.{Key}
use Rattle.heap_intern.specs.declared.table.key.Key.TheVariants.{Units, Spelled}

abbrev pub units_of_key : Key → List ℕ
units_of_key (Units xs) = xs.now
units_of_key (Spelled s) = spelling_units s

-- they are no more than a string may have, and bytes spell them
abbrev pub IsKey : Key → Type 0
IsKey (Units xs) = length xs.now ≤ MAX
IsKey (Spelled s) = IsReadable s × (length (spelling_units s) ≤ MAX)
