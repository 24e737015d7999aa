use Rattle.std.proofs.Common.{◌≡◌, ◌++◌, length}
use Rattle.js_replace.specs.Substitution.{substituted}
use Rattle.js_replace.proofs.pieces.push_substituted.Given as goal

abbrev pub invariant-loop-piece : goal.invariant-loop-piece
invariant-loop-piece l = l.text ++ substituted l.rest l.s l.at l.w ≡ l.fn.text ++ substituted l.template l.s l.at l.w

abbrev pub decreases-loop-piece : goal.decreases-loop-piece
decreases-loop-piece l = length l.rest
