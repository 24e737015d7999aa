use Rattle.eval_scopes.proofs.Walks.{starts_turned}
use Rattle.eval_scopes.proofs.frames.enter_turn_at.Goals as goal

pub returns-clause-starts : goal.returns-clause-starts
returns-clause-starts g c = λ before after h r s.
    starts_turned c.enter_turn.result before after c.args.all.now.items c.args.place c.enter_turn.new.self c.args.name.now c.args.value c.requires c.enter_turn.ensures.frame h r s
