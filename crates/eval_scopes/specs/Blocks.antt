-- Helpers: no public contract reaches these definitions.
-- One block before those around it.
use Rattle.std.specs.Prelude.{Bool, Option, None, if◌then◌else◌}
use Rattle.std.specs.Option.{option_or}
use Rattle.eval_scopes.specs.Bindings.{Bound}

-- what a block says of a name: its value, or that it has none yet, or what is said further out
abbrev pub inner_first : {V : Type 0} → Option (Bound V) → Bool → Option (Bound V) → Option (Bound V)
inner_first bound declared outer = option_or bound (if declared then None else outer)
