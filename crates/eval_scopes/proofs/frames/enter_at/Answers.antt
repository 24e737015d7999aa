use Rattle.eval_scopes.proofs.Walks.{starts_entered}
use Rattle.eval_scopes.proofs.frames.enter_at.Goals as goal

pub returns-clause-starts : goal.returns-clause-starts
returns-clause-starts g c = λ before after h r s. starts_entered before after c.args.all.now.items c.args.place c.enter.new.self _ c.requires c.enter.ensures.frame h r s
