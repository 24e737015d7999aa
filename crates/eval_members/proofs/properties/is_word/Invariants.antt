use Rattle.std.proofs.Common.{◌≡◌, ℕ, ◌<◌, get_or}
use Rattle.eval_members.proofs.properties.is_word.Given as goal

abbrev pub invariant-loop-i : goal.invariant-loop-i
invariant-loop-i l =
    record {
      same : (k : ℕ) → k < l.i → get_or l.units k 0 ≡ get_or l.word k 0;
    }
