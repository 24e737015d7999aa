use Rattle.std.proofs.Common.{◌≡◌, true, false, drop}
use Rattle.js_parse.specs.NameFaults.{all_marked}
use Rattle.js_parse.specs.NameWalk.{has, letters_of}
use Rattle.js_parse.proofs.name_set.NameSet.hide.Given as goal

abbrev pub invariant-loop-name : goal.invariant-loop-name
invariant-loop-name l = record {
  without : all_marked false (drop l.name-index l.names) (has l.self) ≡ all_marked false l.names (has l.fn.self);
  again : all_marked true (letters_of l.hidden.items) (has l.self) ≡ has l.fn.self;
}
