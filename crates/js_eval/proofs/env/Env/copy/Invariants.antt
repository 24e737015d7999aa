use Rattle.std.proofs.Common.{◌≡◌, take, map}
use Rattle.js_eval.specs.Copies.{bound_content}
use Rattle.js_eval.proofs.env.Env.copy.Given as goal

abbrev pub invariant-loop-binding : goal.invariant-loop-binding
invariant-loop-binding g l = map bound_content l.top ≡ map bound_content (take l.binding-index l.binding-items)
