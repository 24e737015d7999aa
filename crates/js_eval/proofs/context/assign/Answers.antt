use Rattle.eval_scopes.specs.Seen.{bindings_of}
use Rattle.js_item.specs.Seen.{seen}
use Rattle.js_eval.proofs.Assigned.{unassigned}
use Rattle.js_eval.proofs.context.assign.Goals as goal

pub returns-in-None-clause-went : goal.returns-in-None-clause-went
returns-in-None-clause-went g c = λ x. unassigned (g.S.Strings.state c.args.store.now) g.S.Strings.number x
    (bindings_of c.args.context.now.scope) c.args.name.now (seen (g.S.Strings.state c.args.store.now) g.S.Strings.number c.args.value) c.in-None.ensures

pub returns-in-Some-clause-went : goal.returns-in-Some-clause-went
returns-in-Some-clause-went g c = λ x. c.assign_at.ensures.went c.args.name.now c.in-Some.ensures x
