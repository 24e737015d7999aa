-- What was written of a report.
use Rattle.std.proofs.Common.{◌≤◌, inl, inr, ⊎_elim, ℕ, List, arith}
use Rattle.js_io.specs.SinkState.{SinkState}
use Rattle.js_io.specs.Report.{TakesAll, TakesUntil, IsEnd, Sinks, Report, Refusal, Printed}

calm_counts : (a b : SinkState) (bytes : List ℕ) → TakesAll a b bytes → a.faults ≤ b.faults
calm_counts a b bytes took = omega (arith, took.calm)

until_counts : (a b : SinkState) (bytes : List ℕ) → TakesUntil a b bytes → a.faults ≤ b.faults
until_counts a b bytes took = took.counted

-- no count of a sink falls
pub counts_kept : (r : Report) (code : ℕ) (old new : Sinks) → IsEnd r code old new → (old.out.faults ≤ new.out.faults) × (old.err.faults ≤ new.err.faults)
counts_kept (Refusal status line) code old new end = (calm_counts _ _ _ end.silent, ⊎_elim (calm_counts old.err new.err line) (until_counts old.err new.err line) end.told)
counts_kept (Printed status written told) code old new (inl whole) = (calm_counts _ _ _ whole.out, calm_counts _ _ _ whole.err)
counts_kept (Printed status written told) code old new (inr (inl cut)) = (until_counts _ _ _ cut.out, calm_counts _ _ _ cut.err)
counts_kept (Printed status written told) code old new (inr (inr cut)) = (calm_counts _ _ _ cut.out, until_counts _ _ _ cut.err)
