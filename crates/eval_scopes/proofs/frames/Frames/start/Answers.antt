use Rattle.std.proofs.Common.{ap, min, ◌∙◌}
use Rattle.eval_scopes.proofs.Walks.{past_from}
use Rattle.eval_scopes.proofs.frames.Frames.start.Goals as goal

pub returns-clause-past : goal.returns-clause-past
returns-clause-past g c = λ x e k f l s.
    past_from c.self.inside.starts.counts c.self.inside.entered c.self.inside.all.items c.args.self.now k f x c.args.key c.min.result
    c.self.view_is c.self.invariant (c.min.ensures ∙ ap (λ q. min c.self.inside.entered q) c.get.ensures) l s e
