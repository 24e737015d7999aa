use Rattle.std.proofs.Common.{◌∙◌, sym, refl}
use Rattle.eval_scopes.specs.Seen.{bound_of, bindings_of}
use Rattle.js_eval.proofs.Within.{place_fine}
use Rattle.js_eval.proofs.Names.{read_one}
use Rattle.js_eval.proofs.context.value_at.Goals as goal

pub returns-clause-fine : goal.returns-clause-fine
returns-clause-fine g c =
    let s = g.S.Strings.state c.args._store.now in
    place_fine s g.S.Strings.number c.args.context.now.scope c.args.place (bound_of c.at.result.now) c.requires.context.bindings c.at.ensures

pub returns-clause-did : goal.returns-clause-did
returns-clause-did g c = λ n p.
    let s = g.S.Strings.state c.args._store.now in
    let b = bound_of c.at.result.now in
    read_one s g.S.Strings.number (bindings_of c.args.context.now.scope) n b b.value (p.reads ∙ sym c.at.ensures)
    (place_fine s g.S.Strings.number c.args.context.now.scope c.args.place b c.requires.context.bindings c.at.ensures) refl
