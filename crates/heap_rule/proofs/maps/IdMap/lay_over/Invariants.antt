use Rattle.std.proofs.Common.{◌≡◌, map, Some}
use Rattle.std.specs.List.{All}
use Rattle.std.specs.FinMap.{get}
use Rattle.heap_rule.specs.Maps.{laid_at, laid_over, upper_one}
use Rattle.heap_rule.proofs.maps.IdMap.lay_over.Given as goal

abbrev pub invariant-loop-key : goal.invariant-loop-key
invariant-loop-key g l = (laid_at upper_one l.self l.upper (map (λ e. e.0) l.key-iterator) ≡ laid_over upper_one l.fn.self l.upper) × All (λ e. get l.upper e.0 ≡ Some e.1) l.key-iterator
