use Rattle.eval_members.specs.Parts.{lacking}
use Rattle.std.proofs.Common.{arith, ◌∙◌}
use Rattle.std.proofs.lemmas.Result.{err_from_is_err_and}
use Rattle.js_store.specs.State.{text}
use Rattle.js_store.proofs.Laws.{step_after}
use Rattle.eval_members.proofs.Lookups.{no_memory}
use Rattle.eval_members.proofs.properties.lack.Goals as goal

pub returns-in_err-units-clause-did : goal.returns-in_err-units-clause-did
returns-in_err-units-clause-did g c =
    let state = g.S.Strings.state in
    let a = state c.args.store.now in
    let l = c.len.ensures in
    let e = c.in_err-units.ensures in
    let p = err_from_is_err_and c.from_residual.result c.from_residual.ensures.1 in
    rw (p.1, p.2) (no_memory g.S.Strings.number a (state c.copied.new.store) (lacking c.args.at (text a (g.S.Strings.number c.args.key)))
    (step_after l.uses.step e.uses.step (omega arith) (omega arith)) (e.uses.history ∙ l.uses.history))
