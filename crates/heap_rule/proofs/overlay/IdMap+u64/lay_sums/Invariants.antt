use Rattle.std.proofs.Common.{◌≡◌, map, Some}
use Rattle.std.specs.List.{All}
use Rattle.std.specs.FinMap.{get}
use Rattle.heap_rule.specs.Maps.{laid_at, laid_over}
use Rattle.heap_rule.specs.Agents.{sum_of_loads}
use Rattle.heap_rule.proofs.overlay.IdMap+u64.lay_sums.Given as goal

abbrev pub invariant-loop-key : goal.invariant-loop-key
invariant-loop-key l = (laid_at sum_of_loads l.self l.upper (map (λ e. e.0) l.key-iterator) ≡ laid_over sum_of_loads l.fn.self l.upper) × All (λ e. get l.upper e.0 ≡ Some e.1) l.key-iterator
