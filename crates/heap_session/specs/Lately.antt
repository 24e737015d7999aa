-- The words that a session keeps of the strings that it read last. No public contract cites these.
use Rattle.std.specs.Prelude.{ℕ, ◌<◌, List}
use Rattle.heap_rule.specs.declared.view.View.{View}
use Rattle.heap_rule.specs.Maps.{Has, HasKey}
use Rattle.heap_read.specs.Written.{HoldsUnits}
use Rattle.heap_session.specs.declared.kept.KeptWord.{KeptWord}

-- where the word has any unit, the string is known, and these are units of it
abbrev pub IsWordKept : View → KeptWord → Type 0
IsWordKept v l = 0 < l.held.count → HasKey v.units l.id
    × ((us : List ℕ) → Has v.units l.id us → HoldsUnits us l.held)
