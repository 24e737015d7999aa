-- Strings that were cut from others.
use Rattle.std.specs.Prelude.{ℕ, Bool}
use Rattle.js_header.specs.declared.form.Form.TheVariants.{Sliced}
use Rattle.heap_rule.specs.declared.view.View.{View}
use Rattle.heap_rule.specs.Maps.{Has}

-- the form that the view has of the string is that of a part of another one
abbrev pub IsSeenSliced : View → ℕ → Type 0
IsSeenSliced v s = (wide : Bool) × (parent : ℕ) × (offset : ℕ) × Has v.forms s (Sliced wide parent offset)
