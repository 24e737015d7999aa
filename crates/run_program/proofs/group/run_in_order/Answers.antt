use Rattle.std.proofs.Common.{◌∙◌, arith}
use Rattle.std.proofs.lemmas.List.{length-set}
use Rattle.eval_scopes.specs.Seen.{bounds_of}
use Rattle.run_program.specs.Jobs.{number, means}
use Rattle.run_program.proofs.Copies.{bounds_fine_still}
use Rattle.run_program.proofs.Jobs.{ran_more, empty_more}
use Rattle.run_program.proofs.Sharing.{runs_still}
use Rattle.run_program.proofs.group.run_in_order.Goals as goal

pub run_job-requires-clause-empty : goal.run_job-requires-clause-empty
run_job-requires-clause-empty g c = let v = c.loop-k.invariant in v.empty c.loop-k.k _ (omega arith) (omega (arith, v.lengths, c.loop-k-test.true))

pub run_job-requires-clause-env : goal.run_job-requires-clause-env
run_job-requires-clause-env g c = bounds_fine_still (g.S.Shared.state c.args.session.now) (g.S.Shared.state c.loop-k.session) number
    c.loop-k.invariant.ran.grows (bounds_of c.args.env.now) c.requires.env

pub loop-k-preserved : goal.loop-k-preserved
loop-k-preserved g c = let v = c.loop-k.invariant in let s = g.S.Shared.state in let a = s c.args.session.now in record {
  ran = ran_more (means a c.args.env.now) a (s c.loop-k.session) (s c.run_job.new.self) c.args.jobs.now c.loop-k.outcomes c.loop-k.k c.index-jobs-k-in-loop-k.result c.run_job.new.outcome
      c.loop-k-test.true v.lengths c.index-jobs-k-in-loop-k.is v.ran
      (runs_still a (s c.loop-k.session) (s c.run_job.new.self) c.args.env.now _ _ v.ran.grows c.requires.env c.run_job.ensures);
  lengths = length-set c.loop-k.outcomes c.loop-k.k c.run_job.new.outcome ∙ v.lengths;
  empty = empty_more c.loop-k.outcomes c.loop-k.k c.run_job.new.outcome v.empty;
}
