use Rattle.std.proofs.lemmas.Result.{err_from_is_err_and}
use Rattle.js_store.specs.State.{text}
use Rattle.js_item.specs.Seen.{says, fields_mapped}
use Rattle.eval_values.proofs.Copied.{fine_copy}
use Rattle.eval_members.specs.Properties.{own, got}
use Rattle.eval_members.proofs.Lookups.{copied_does, copied_stops}
use Rattle.eval_members.proofs.properties.read_own.Goals as goal

pub returns-clause-fine : goal.returns-clause-fine
returns-clause-fine g c =
    fine_copy (g.S.Strings.state c.look_up_own.new.store) g.S.Strings.number c.in_ok-copy.field-0 c.in_ok-found.found.now c.in_ok-copy.ensures c.in_ok-found.ensures.fine

pub returns-clause-did : goal.returns-clause-did
returns-clause-did g c =
    let state = g.S.Strings.state in
    let number = g.S.Strings.number in
    let a = state c.args.store.now in
    let u = text a (number c.args.key) in
    copied_does number a (state c.look_up_own.new.store) c.in_ok-found.found.now c.in_ok-copy.field-0
    (got c.args.at u (own u (fields_mapped (says a number) c.args.object.now))) c.in_ok-copy.ensures c.in_ok-found.ensures.did

pub returns-in_err-copy-clause-did : goal.returns-in_err-copy-clause-did
returns-in_err-copy-clause-did g c =
    let state = g.S.Strings.state in
    let number = g.S.Strings.number in
    let a = state c.args.store.now in
    let u = text a (number c.args.key) in
    let p = err_from_is_err_and c.from_residual-in_err-copy.result c.from_residual-in_err-copy.ensures.1 in
    rw (p.1, p.2) (copied_stops number a (state c.look_up_own.new.store) c.in_ok-found.found.now
    (got c.args.at u (own u (fields_mapped (says a number) c.args.object.now))) c.in_ok-found.ensures.did)
