use Rattle.std.proofs.lemmas.Result.{err_from_is_err_and}
use Rattle.eval_builtins.proofs.SymbolKeys.{symbol_does, symbol_ends}
use Rattle.std.proofs.lemmas.Result.{on_ok_weaker}
use Rattle.eval_values.proofs.Settled.{strings_read}
use Rattle.eval_builtins.proofs.symbols.symbol_for.Goals as goal

pub returns-in_err-key-clause-did : goal.returns-in_err-key-clause-did
returns-in_err-key-clause-did g c =
    let state = g.S.Strings.state in
    let p = err_from_is_err_and c.from_residual.result c.from_residual.ensures.1 in
    rw (p.1, p.2) (symbol_ends g.S.Strings.number (state c.args.store.now) (state c.to_text.new.store) c.args.value.now c.in_err-key.field-0.0 c.in_err-key.ensures.did)

pub returns-clause-did : goal.returns-clause-did
returns-clause-did g c =
    let state = g.S.Strings.state in
    let e = c.in_ok-key.ensures in
    symbol_does g.S.Strings.number (state c.args.store.now) (state c.to_text.new.store) (state c.register.new.store) c.args.value.now
    c.in_ok-key.key c.register.result e.short e.did c.register.ensures.did

pub returns-clause-settled : goal.returns-clause-settled
returns-clause-settled g c =
    let state = g.S.Strings.state in
    let number = g.S.Strings.number in
    let e = c.register.ensures in
    on_ok_weaker c.register.result (λ h. strings_read number (state c.to_text.new.store) (state c.register.new.store) e.grows
    c.args.value.now (number c.in_ok-key.key) c.in_ok-key.ensures.own h) e.settled
