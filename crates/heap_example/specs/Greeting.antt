-- Helpers: no public contract reaches these definitions.
-- What a thread makes.
use Rattle.std.specs.Prelude.{ℕ, List, ◌++◌}
use Rattle.heap_rule.specs.declared.view.View.{View}
use Rattle.heap_rule.specs.Maps.{Has}
use Rattle.heap_read.specs.declared.string.JsStr.{JsStr}

-- an agent that knew v knows w now, and there the string s has the units of hello and then those of the name
abbrev pub Greets : View → View → JsStr → List ℕ → JsStr → Type 0
Greets v w hello name s = (us : List ℕ) → Has v.units hello.id us → Has w.units s.id (us ++ name)
