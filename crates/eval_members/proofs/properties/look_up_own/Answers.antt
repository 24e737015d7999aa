use Rattle.std.proofs.Common.{arith, refl}
use Rattle.js_item.specs.Fine.{strings_of}
use Rattle.js_item.proofs.Still.{fine_keys, fine_differ}
use Rattle.js_item.proofs.Sizes.{width_most}
use Rattle.eval_members.specs.Properties.{given_as}
use Rattle.eval_members.proofs.Lookups.{fine_given, got_given, got_none}
use Rattle.eval_members.proofs.properties.look_up_own.Goals as goal

pub get-requires-clause-few : goal.get-requires-clause-few
get-requires-clause-few g c = omega (arith, width_most c.args.object.now, c.requires.bounded.many)

pub get-requires-clause-keys : goal.get-requires-clause-keys
get-requires-clause-keys g c = fine_keys (strings_of (g.S.Strings.state c.args.store.now)) g.S.Strings.number c.args.object.now c.requires.fine

pub get-requires-clause-apart : goal.get-requires-clause-apart
get-requires-clause-apart g c = fine_differ (strings_of (g.S.Strings.state c.args.store.now)) g.S.Strings.number c.args.object.now c.requires.fine

pub returns-in-Some-clause-fine : goal.returns-in-Some-clause-fine
returns-in-Some-clause-fine g c =
    let state = g.S.Strings.state in
    let e = c.in-Some.ensures in
    fine_given g.S.Strings.number (state c.args.store.now) (state c.get.new.store) e.uses.step e.uses.history c.args.object.now
    c.requires.fine c.args.key c.in-Some.value.now c.in-Some.value.now e.value refl

pub returns-in-Some-clause-did : goal.returns-in-Some-clause-did
returns-in-Some-clause-did g c =
    let state = g.S.Strings.state in
    let e = c.in-Some.ensures in
    got_given g.S.Strings.number (state c.args.store.now) (state c.get.new.store) e.uses.step e.uses.history c.args.object.now
    c.requires.fine c.args.key c.in-Some.value.now c.in-Some.value.now e.value refl c.args.at

pub returns-in-None-clause-did : goal.returns-in-None-clause-did
returns-in-None-clause-did g c =
    let state = g.S.Strings.state in
    let e = c.in-None.ensures in
    got_none g.S.Strings.number (state c.args.store.now) (state c.get.new.store) e.uses.step e.uses.history c.args.object.now
    c.requires.fine c.args.key (state c.lack.new.store) (given_as (λ v. v.now) c.lack.result) c.args.at c.requires.key.known e.value c.lack.ensures.did
