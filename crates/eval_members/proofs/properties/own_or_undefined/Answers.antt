use Rattle.std.proofs.Common.{arith}
use Rattle.js_item.specs.Fine.{strings_of}
use Rattle.js_item.proofs.Still.{fine_keys, fine_differ}
use Rattle.js_item.proofs.Sizes.{width_most}
use Rattle.eval_members.proofs.Lookups.{fine_given, plain_given, plain_none}
use Rattle.eval_members.proofs.properties.own_or_undefined.Goals as goal

pub get-requires-clause-few : goal.get-requires-clause-few
get-requires-clause-few g c = omega (arith, width_most c.args.object.now, c.requires.bounded.many)

pub get-requires-clause-keys : goal.get-requires-clause-keys
get-requires-clause-keys g c = fine_keys (strings_of (g.S.Strings.state c.args.store.now)) g.S.Strings.number c.args.object.now c.requires.fine

pub get-requires-clause-apart : goal.get-requires-clause-apart
get-requires-clause-apart g c = fine_differ (strings_of (g.S.Strings.state c.args.store.now)) g.S.Strings.number c.args.object.now c.requires.fine

pub returns-in_ok-copy-in-Some-clause-fine : goal.returns-in_ok-copy-in-Some-clause-fine
returns-in_ok-copy-in-Some-clause-fine g c =
    let state = g.S.Strings.state in
    let e = c.in-Some.ensures in
    fine_given g.S.Strings.number (state c.args.store.now) (state c.get.new.store) e.uses.step e.uses.history c.args.object.now
    c.requires.fine c.args.key c.in-Some.value.now c.in_ok-copy-in-Some.field-0 e.value c.in_ok-copy-in-Some.ensures

pub returns-in_ok-copy-in-Some-clause-did : goal.returns-in_ok-copy-in-Some-clause-did
returns-in_ok-copy-in-Some-clause-did g c =
    let state = g.S.Strings.state in
    let e = c.in-Some.ensures in
    plain_given g.S.Strings.number (state c.args.store.now) (state c.get.new.store) e.uses.step e.uses.history c.args.object.now
    c.requires.fine c.args.key c.in-Some.value.now c.in_ok-copy-in-Some.field-0 e.value c.in_ok-copy-in-Some.ensures

pub returns-in-None-clause-did : goal.returns-in-None-clause-did
returns-in-None-clause-did g c =
    let state = g.S.Strings.state in
    let e = c.in-None.ensures in
    plain_none g.S.Strings.number (state c.args.store.now) (state c.get.new.store) e.uses.step e.uses.history c.args.object.now c.requires.fine c.args.key e.value
