use Rattle.std.proofs.Common.{◌≡◌, ℕ, ◌<◌, ◌≤◌, length, take, slice_index_or}
use Rattle.run_program.specs.declared.job.Outcome.{Outcome}
use Rattle.run_program.specs.Jobs.{RunsEachJob, HasNoLines}
use Rattle.run_program.proofs.group.run_in_order.Given as goal

abbrev pub invariant-loop-k : goal.invariant-loop-k
invariant-loop-k g l = record {
  ran : RunsEachJob (g.S.Shared.state l.initial.session) (g.S.Shared.state l.session) l.env (take l.k l.jobs) (take l.k l.outcomes);
  lengths : length l.outcomes ≡ length l.jobs;
  empty : (i : ℕ) (d : Outcome) → l.k ≤ i → i < length l.outcomes → HasNoLines (slice_index_or l.outcomes i d);
}
