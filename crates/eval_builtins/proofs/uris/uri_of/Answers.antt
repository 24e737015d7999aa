use Rattle.std.proofs.lemmas.Result.{err_from_is_err_and}
use Rattle.eval_builtins.specs.UriFunctions.{outcome_of}
use Rattle.eval_builtins.proofs.UriCalls.{uri_does, uri_ends}
use Rattle.std.proofs.lemmas.Result.{on_ok_weaker}
use Rattle.eval_values.proofs.Settled.{strings_read}
use Rattle.eval_builtins.proofs.uris.uri_of.Goals as goal

pub returns-in_err-text-clause-did : goal.returns-in_err-text-clause-did
returns-in_err-text-clause-did g c =
    let state = g.S.Strings.state in
    let p = err_from_is_err_and c.from_residual.result c.from_residual.ensures.1 in
    rw (p.1, p.2) (uri_ends g.S.Strings.number (outcome_of c.args.which) (state c.args.store.now) (state c.to_text.new.store) c.args.value.now c.in_err-text.field-0.0 c.in_err-text.ensures.did)

pub returns-clause-did : goal.returns-clause-did
returns-clause-did g c =
    let state = g.S.Strings.state in
    let e = c.in_ok-text.ensures in
    uri_does g.S.Strings.number (outcome_of c.args.which) (state c.args.store.now) (state c.to_text.new.store) (state c.give_uri.new.store)
    c.args.value.now c.in_ok-text.text c.give_uri.result e.grows.limit e.settles e.did c.give_uri.ensures.did

pub returns-clause-settled : goal.returns-clause-settled
returns-clause-settled g c =
    let state = g.S.Strings.state in
    let number = g.S.Strings.number in
    let e = c.give_uri.ensures in
    on_ok_weaker c.give_uri.result (λ h. strings_read number (state c.to_text.new.store) (state c.give_uri.new.store) e.grows
    c.args.value.now (number c.in_ok-text.text) c.in_ok-text.ensures.own h) e.settled
