-- The arguments that a method uses: those that its definition names; further ones are ignored.
use Rattle.eval_values.specs.Arguments.{is_undefined}
use Rattle.eval_values.specs.Conversions.{to_string}
use Rattle.eval_values.specs.Outcome.{Out, gave, free}
use Rattle.js_item.specs.Seen.{Val}
use Rattle.std.specs.Prelude.{ℕ, List, length, take, if◌then◌else◌}
use Rattle.eval_tree.specs.declared.tree.Method.{Method}
use Rattle.eval_tree.specs.Methods.{most_taken}

abbrev pub operands : {A : Type 0} → Method → List A → List A
operands m vs = take (most_taken m (length vs)) vs

-- a string argument, or these units where it isn't given
abbrev pub text_or : List ℕ → ℕ → Val → Out (List ℕ)
text_or units limit v = if is_undefined v then gave units free else to_string limit v
