use Rattle.std.proofs.Common.{◌≡◌, ◌++◌, length, map}
use Rattle.std.specs.Vec.Iter.{into_iter_items, into_iter_len}
use Rattle.eval_tree.specs.Tree.{tree_of}
use Rattle.run_program.specs.Stages.{AreNumbered, job_trees}
use Rattle.run_program.proofs.prepare.jobs_of.Given as goal

abbrev pub invariant-loop-script : goal.invariant-loop-script
invariant-loop-script l = record {
  all : l.yielded ++ into_iter_items l.script-iterator ≡ into_iter_items l.initial.script-iterator;
  left : into_iter_len l.script-iterator ≡ length (into_iter_items l.script-iterator);
  trees : job_trees l.jobs.items ≡ map tree_of l.yielded;
  numbered : AreNumbered 0 l.jobs.items;
  index : l.index ≡ length l.jobs.items;
  count : l.index ≡ length l.yielded;
}
