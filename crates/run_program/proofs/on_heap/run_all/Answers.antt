use Rattle.heap_session.specs.Sessions.{state_in}
use Rattle.run_program.specs.Jobs.{means}
use Rattle.run_program.proofs.Jobs.{ran_within_ids, ran_within_words}
use Rattle.run_program.proofs.on_heap.run_all.Goals as goal

pub returns-clause-ids : goal.returns-clause-ids
returns-clause-ids g c = let a = state_in c.args.session.now in
    ran_within_ids (means a c.args.env.now) a (state_in c.run_groups.new.session) c.args.jobs.now c.run_groups.new.outcomes c.run_groups.ensures

pub returns-clause-words : goal.returns-clause-words
returns-clause-words g c = let a = state_in c.args.session.now in
    ran_within_words (means a c.args.env.now) a (state_in c.run_groups.new.session) c.args.jobs.now c.run_groups.new.outcomes c.run_groups.ensures
