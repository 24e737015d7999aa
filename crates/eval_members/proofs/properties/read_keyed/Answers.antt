use Rattle.std.proofs.lemmas.Result.{err_from_is_err_and}
use Rattle.js_item.specs.Seen.{seen, says, fields_mapped}
use Rattle.js_item.proofs.Still.{fine_fields_still}
use Rattle.eval_members.proofs.Lookups.{keyed_does, keyed_fails}
use Rattle.std.proofs.lemmas.Result.{on_ok_weaker}
use Rattle.eval_values.proofs.Settled.{strings_read}
use Rattle.eval_members.proofs.properties.read_keyed.Goals as goal

pub read_by_text-requires-clause-fine : goal.read_by_text-requires-clause-fine
read_by_text-requires-clause-fine g c = fine_fields_still (g.S.Strings.state c.args.store.now) (g.S.Strings.state c.to_text.new.store)
    c.in_ok-text.ensures.grows g.S.Strings.number c.args.object.now c.requires.fine

pub returns-clause-did : goal.returns-clause-did
returns-clause-did g c =
    let state = g.S.Strings.state in
    let number = g.S.Strings.number in
    let a = state c.args.store.now in
    let e = c.in_ok-text.ensures in
    keyed_does number a (state c.to_text.new.store) (state c.read_by_text.new.store) e.grows c.args.object.now c.requires.fine c.args.at
    (seen a number c.args.index.now) c.in_ok-text.text c.read_by_text.result e.did c.read_by_text.ensures.did

pub returns-in_err-text-clause-did : goal.returns-in_err-text-clause-did
returns-in_err-text-clause-did g c =
    let state = g.S.Strings.state in
    let number = g.S.Strings.number in
    let a = state c.args.store.now in
    let p = err_from_is_err_and c.from_residual.result c.from_residual.ensures.1 in
    rw (p.1, p.2) (keyed_fails number a (state c.to_text.new.store) (fields_mapped (says a number) c.args.object.now) c.args.at
    (seen a number c.args.index.now) c.in_err-text.field-0.0 c.in_err-text.ensures.did)

pub returns-clause-key_settled : goal.returns-clause-key_settled
returns-clause-key_settled g c =
    let state = g.S.Strings.state in
    let number = g.S.Strings.number in
    let e = c.read_by_text.ensures in
    on_ok_weaker c.read_by_text.result (λ h. strings_read number (state c.to_text.new.store) (state c.read_by_text.new.store) e.grows
    c.args.index.now (number c.in_ok-text.text) c.in_ok-text.ensures.own h) e.settled
