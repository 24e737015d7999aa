use Rattle.std.proofs.Common.{◌+◌, ◌*◌, ◌/◌, ◌%◌, ℕ, ap}
use Rattle.run_sources.specs.Draws.{draw, next}
use Rattle.run_sources.proofs.draws.Draws.draw.Goals as goal

pub returns-clause-value : goal.returns-clause-value
unfolding draw next
returns-clause-value c = ap (λ (x : ℕ). (x * 1664525 + 1013904223) % 4294967296 / 65536 % c.args.most) c.from.ensures

pub returns-clause-state : goal.returns-clause-state
unfolding next
returns-clause-state c = ap (λ (x : ℕ). (x * 1664525 + 1013904223) % 4294967296) c.from.ensures
