use Rattle.std.proofs.Common.{◌≡◌, drop, map}
use Rattle.eval_tree.specs.Tree.{stmts_tree, arm_tree, arms as arms_tree}
use Rattle.js_parse.specs.NameFaults.{offers, faults_in_arms, faults_among}
use Rattle.js_parse.specs.NameWalk.{has, found_of}
use Rattle.js_parse.proofs.name_walk.+names.Given as goal

-- what is found from here on is what is found in all
abbrev pub invariant-among-loop-s : goal.invariant-among-loop-s
invariant-among-loop-s l = record {
  finds : offers (found_of l.first) (faults_among (stmts_tree (drop l.s-index l.body)) (has l.loops) (has l.before)) ≡ offers
      (found_of l.fn.first) (faults_among (stmts_tree l.body) (has l.fn.loops) (has l.fn.before));
  kept : has l.loops ≡ has l.fn.loops;
}

abbrev pub invariant-arms-loop-arm : goal.invariant-arms-loop-arm
invariant-arms-loop-arm l = record {
  finds : offers (found_of l.first) (faults_in_arms (arms_tree (map arm_tree (drop l.arm-index l.list))) (has l.loops)) ≡ offers
      (found_of l.fn.first) (faults_in_arms (arms_tree (map arm_tree l.list)) (has l.fn.loops));
  kept : has l.loops ≡ has l.fn.loops;
}
