use Rattle.std.proofs.lemmas.Result.{err_from_is_err_and}
use Rattle.js_store.specs.State.{text}
use Rattle.js_item.specs.Seen.{says, fields_mapped}
use Rattle.js_item.proofs.Still.{fine_fields_still}
use Rattle.eval_values.proofs.TextArguments.{text_stops}
use Rattle.eval_members.specs.Properties.{key_out, own, got}
use Rattle.eval_members.proofs.Lookups.{property_does}
use Rattle.eval_members.proofs.properties.read_by_text.Goals as goal

pub read_own-requires-clause-fine : goal.read_own-requires-clause-fine
read_own-requires-clause-fine g c = fine_fields_still (g.S.Strings.state c.args.store.now) (g.S.Strings.state c.intern.new.store)
    c.in_ok-key.ensures.grows g.S.Strings.number c.args.object.now c.requires.fine

pub returns-clause-did : goal.returns-clause-did
returns-clause-did g c =
    let state = g.S.Strings.state in
    let number = g.S.Strings.number in
    let a = state c.args.store.now in
    let e = c.in_ok-key.ensures in
    property_does number a (state c.intern.new.store) (state c.read_own.new.store) e.grows c.args.object.now c.requires.fine c.in_ok-key.key
    (text a (number c.args.s)) c.read_own.result e.did c.args.at c.read_own.ensures.did

pub returns-in_err-key-clause-did : goal.returns-in_err-key-clause-did
returns-in_err-key-clause-did g c =
    let state = g.S.Strings.state in
    let number = g.S.Strings.number in
    let a = state c.args.store.now in
    let p = err_from_is_err_and c.from_residual.result c.from_residual.ensures.1 in
    rw (p.1, p.2) (text_stops number a (state c.intern.new.store) c.in_err-key.field-0.0 (key_out (text a (number c.args.s)))
    (λ k. got c.args.at k (own k (fields_mapped (says a number) c.args.object.now))) c.in_err-key.ensures.did)
