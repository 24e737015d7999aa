use Rattle.std.proofs.lemmas.Result.{err_from_is_err_and}
use Rattle.eval_builtins.proofs.Quoted.{own_text, no_text}
use Rattle.js_store.proofs.Laws.{grows_refl}
use Rattle.eval_values.proofs.Settled.{elements_read}
use Rattle.eval_builtins.proofs.quoting.give_text.Goals as goal

pub returns-in_err-text-clause-did : goal.returns-in_err-text-clause-did
returns-in_err-text-clause-did g c =
    let state = g.S.Strings.state in
    let p = err_from_is_err_and c.from_residual.result c.from_residual.ensures.1 in
    rw (p.1, p.2) (no_text g.S.Strings.number (state c.args.store.now) (state c.to_text.new.store) c.args.value.now c.in_err-text.field-0.0 c.in_err-text.ensures.did)

pub returns-clause-did : goal.returns-clause-did
returns-clause-did g c =
    let state = g.S.Strings.state in
    let e = c.in_ok-text.ensures in
    own_text g.S.Strings.number (state c.args.store.now) (state c.to_text.new.store) c.args.value.now c.in_ok-text.text e.known e.did

pub returns-clause-read : goal.returns-clause-read
returns-clause-read g c =
    let number = g.S.Strings.number in
    let b = g.S.Strings.state c.to_text.new.store in
    elements_read number b b (grows_refl b) c.args.value.now (number c.in_ok-text.text) c.in_ok-text.ensures.own
