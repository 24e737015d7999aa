use Rattle.std.proofs.Common.{◌≡◌, true, drop}
use Rattle.js_parse.specs.NameFaults.{all_marked}
use Rattle.js_parse.specs.NameWalk.{has}
use Rattle.js_parse.proofs.name_set.NameSet.insert_all.Given as goal

abbrev pub invariant-loop-name : goal.invariant-loop-name
invariant-loop-name l = all_marked true (drop l.name-index l.names) (has l.self) ≡ all_marked true l.names (has l.fn.self)
