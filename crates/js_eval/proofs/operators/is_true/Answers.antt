use Rattle.js_eval.proofs.Stays.{context_fine_still}
use Rattle.js_eval.proofs.operators.is_true.Goals as goal

pub returns-clause-context : goal.returns-clause-context
returns-clause-context g c =
    context_fine_still (g.S.Strings.state c.args.store.now) (g.S.Strings.state c.truth.new.store) g.S.Strings.number c.truth.ensures.uses.step.grows c.args._context.now c.requires.context
