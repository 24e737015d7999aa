use Rattle.std.proofs.lemmas.Result.{err_from_is_err_and}
use Rattle.js_store.specs.State.{text}
use Rattle.eval_builtins.proofs.SymbolKeys.{registered_given, registered_cut}
use Rattle.eval_builtins.proofs.symbols.register.Goals as goal

pub returns-in_err-r-clause-did : goal.returns-in_err-r-clause-did
returns-in_err-r-clause-did g c = λ t l.
    let state = g.S.Strings.state in
    let number = g.S.Strings.number in
    let a = state c.args.store.now in
    let p = err_from_is_err_and c.from_residual.result c.from_residual.ensures.1 in
    let e = c.in_err-r.ensures in
    rw (p.1, p.2) (registered_cut number a (state c.intern.new.self) t (text a (number c.args.key)) (a.settled (number c.args.key)) c.in_err-r.field-0.0 e.step e.kept e.shut l)

pub returns-clause-did : goal.returns-clause-did
returns-clause-did g c = λ t l.
    let state = g.S.Strings.state in
    let number = g.S.Strings.number in
    let a = state c.args.store.now in
    let e = c.in_ok-r.ensures in
    registered_given number a (state c.intern.new.self) t (text a (number c.args.key)) (a.settled (number c.args.key)) c.in_ok-r.r e.ok.0 e.step e.grown l
