use Rattle.std.proofs.Common.{◌≡◌, true, drop}
use Rattle.js_parse.specs.NameFaults.{all_marked}
use Rattle.js_parse.specs.NameWalk.{has, letters_of}
use Rattle.js_parse.proofs.name_set.NameSet.show.Given as goal

abbrev pub invariant-loop-letters : goal.invariant-loop-letters
invariant-loop-letters l = all_marked true (letters_of (drop l.letters-index l.hidden)) (has l.self) ≡ all_marked true (letters_of l.hidden) (has l.fn.self)
