use Rattle.js_eval.proofs.Stays.{context_fine_still}
use Rattle.js_eval.proofs.object.intern_key.Goals as goal

pub returns-in_err-intern_units-clause-context : goal.returns-in_err-intern_units-clause-context
returns-in_err-intern_units-clause-context g c =
    context_fine_still (g.S.Strings.state c.args.store.now) (g.S.Strings.state c.intern_units.new.self) g.S.Strings.number c.in_err-intern_units.ensures.step.grows c.args._context.now c.requires

pub returns-clause-context : goal.returns-clause-context
returns-clause-context g c =
    context_fine_still (g.S.Strings.state c.args.store.now) (g.S.Strings.state c.intern_units.new.self) g.S.Strings.number c.in_ok-intern_units.ensures.step.grows c.args._context.now c.requires
