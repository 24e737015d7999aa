use Rattle.std.proofs.Common.{◌≡◌, drop}
use Rattle.eval_tree.specs.Keys.{key_of}
use Rattle.eval_tree.proofs.tree.key.Given as goal

abbrev pub invariant-loop-i : goal.invariant-loop-i
invariant-loop-i l = l.key ≡ key_of (drop l.i l.bytes)
