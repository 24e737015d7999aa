use Rattle.std.proofs.lemmas.Result.{err_from_is_err_and}
use Rattle.js_item.specs.Fine.{strings_of}
use Rattle.js_item.proofs.Still.{fine_keys}
use Rattle.eval_builtins.proofs.Objects.{keys_known, keys_given, no_keys}
use Rattle.eval_builtins.proofs.keys.give_keys.Goals as goal

pub returns-clause-did : goal.returns-clause-did
returns-clause-did g c =
    let state = g.S.Strings.state in
    let e = c.in_ok-keys.ensures in
    keys_given g.S.Strings.number (state c.args.store.now) (state c.own_keys.new.store) e.uses.step e.uses.history c.args.object.now c.in_ok-keys.keys c.requires e.value e.units

pub returns-in_err-keys-clause-did : goal.returns-in_err-keys-clause-did
returns-in_err-keys-clause-did g c =
    let state = g.S.Strings.state in
    let e = c.in_err-keys.ensures in
    let p = err_from_is_err_and c.from_residual.result c.from_residual.ensures.1 in
    rw (p.1, p.2) (no_keys g.S.Strings.number (state c.args.store.now) (state c.own_keys.new.store) e.uses.step e.uses.history c.args.object.now c.in_err-keys.field-0.0 e.fault)

pub own_keys-requires : goal.own_keys-requires
own_keys-requires g c = fine_keys (strings_of (g.S.Strings.state c.args.store.now)) g.S.Strings.number c.args.object.now c.requires

pub returns-clause-fine : goal.returns-clause-fine
returns-clause-fine g c =
    let state = g.S.Strings.state in
    let e = c.in_ok-keys.ensures in
    keys_known g.S.Strings.number (state c.args.store.now) (state c.own_keys.new.store) e.uses.step e.uses.history c.args.object.now c.in_ok-keys.keys.items c.requires e.value
