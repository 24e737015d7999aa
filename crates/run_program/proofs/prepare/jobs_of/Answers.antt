use Rattle.std.proofs.Common.{◌≡◌, ◌∷◌, [], ◌++◌, length, sym, ap, subst, ◌∙◌, append_assoc, arith, List}
use Rattle.std.proofs.lemmas.List.{length_push}
use Rattle.std.specs.Vec.Iter.{into_iter_items}
use Rattle.run_program.specs.declared.job.Job.{Job}
use Rattle.run_program.specs.Stages.{AreNumbered, job_trees}
use Rattle.run_program.proofs.Numbered.{numbered_more, trees_more}
use Rattle.run_program.proofs.prepare.jobs_of.Goals as goal

pub loop-script-preserved : goal.loop-script-preserved
loop-script-preserved c =
    let at = c.loop-script in
    let v = at.invariant in
    let x = c.in-Some.script in
    let job : Job = record { index = at.index; script = x } in
    let steps : into_iter_items at.script-iterator ≡ x ∷ into_iter_items c.next.new.self = c.in-Some.ensures.steps.0 in
    let pushed : c.push.new.self.items ≡ at.jobs.items ++ job ∷ [] = c.in_ok-push.ensures.items in record {
      all = append_assoc at.yielded (x ∷ []) _ ∙ rw (← steps) v.all;
      left = (let was = v.left in let gone = c.in-Some.ensures.steps.1 in let short = ap length steps in omega arith);
      trees = ap job_trees pushed ∙ trees_more at.jobs.items job at.yielded v.trees;
      numbered = subst (λ (js : List Job). AreNumbered 0 js) (sym pushed) (numbered_more 0 at.jobs.items job v.numbered (omega (arith, v.index)));
      index = omega (arith, v.index, ap length pushed, length_push at.jobs.items job);
      count = omega (arith, v.count, length_push at.yielded x);
    }
