-- The test of a settled string, by the form that was seen of it.
use Rattle.std.specs.Prelude.{Bool, true, false, Option, Some, None}
use Rattle.js_header.specs.declared.form.Form.{Form}
use Rattle.js_header.specs.declared.form.Form.TheVariants.{Cons}

-- the form was seen, and is no Cons
abbrev pub is_settled : Option Form → Bool
is_settled None = false
is_settled (Some (Cons wide left right)) = false
is_settled (Some _) = true
