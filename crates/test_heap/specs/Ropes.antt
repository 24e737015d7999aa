-- Helpers: no public contract reaches these definitions.
-- What the helpers of the tests make and keep.
use Rattle.std.specs.Prelude.{ℕ, false, List}
use Rattle.heap_rule.specs.declared.view.View.{View}
use Rattle.heap_rule.specs.Contents.{span}
use Rattle.heap_rule.specs.Maps.{Has}
use Rattle.heap_table.specs.declared.stores.Step.{Step}
use Rattle.heap_table.specs.declared.stores.Step.TheVariants.{Won, Lost}

-- the eight units of the bytes of a word
abbrev pub bytes_of : ℕ → List ℕ
bytes_of word = span (λ _. word) false 0 0 8

-- what was known of units stays known
abbrev pub KeepsUnits : View → View → Type 0
KeepsUnits v w = (i : ℕ) (us : List ℕ) → Has v.units i us → Has w.units i us

abbrev pub IsLost : Step → Type 0
IsLost Won = ⊥
IsLost (Lost word) = Unit {0}
