use Rattle.std.proofs.Common.{◌≡◌, ◌++◌, drop}
use Rattle.heap_rule.proofs.maps.History.add.Given as goal

abbrev pub invariant-loop-call : goal.invariant-loop-call
invariant-loop-call l = l.self-inside.calls.items ++ drop l.call-index l.call-items ≡ l.fn.self ++ l.other
