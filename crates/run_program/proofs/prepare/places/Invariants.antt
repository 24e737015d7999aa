use Rattle.std.proofs.Common.{◌≡◌, length, All}
use Rattle.run_program.specs.Jobs.{HasNoLines}
use Rattle.run_program.proofs.prepare.places.Given as goal

abbrev pub invariant-loop-turn : goal.invariant-loop-turn
invariant-loop-turn l = record {
  len : length l.places.items ≡ l._turn;
  empty : All HasNoLines l.places.items;
}
