use Rattle.std.proofs.Common.{◌≡◌, map, Some}
use Rattle.std.specs.List.{All}
use Rattle.std.specs.FinMap.{get}
use Rattle.heap_rule.specs.Maps.{laid_at, laid_over}
use Rattle.heap_rule.specs.Forms.{later_form}
use Rattle.heap_rule.proofs.overlay.IdMap+Form.lay_later.Given as goal

abbrev pub invariant-loop-key : goal.invariant-loop-key
invariant-loop-key l = (laid_at later_form l.self l.upper (map (λ e. e.0) l.key-iterator) ≡ laid_over later_form l.fn.self l.upper) × All (λ e. get l.upper e.0 ≡ Some e.1) l.key-iterator
