use Rattle.std.proofs.Common.{refl, sym, ◌∙◌}
use Rattle.js_store.specs.State.{text}
use Rattle.js_item.specs.Puts.{has_units, names_key}
use Rattle.js_item.specs.Views.{content_of}
use Rattle.js_item.proofs.Finding.{place_within, place_still, put_there, put_last}
use Rattle.js_item.proofs.Sizes.{width_with, width_either}
use Rattle.js_item.proofs.Still.{keys_still, differ_still, keys_with, keys_either, differ_with, differ_either}
use Rattle.js_item.proofs.Indexing.{indexed_with, indexed_either}
use Rattle.js_item.proofs.builder.put.Goals as goal

pub replace-requires : goal.replace-requires
replace-requires g c =
    let a = g.S.Strings.state c.args.store.now in
    place_within (has_units a g.S.Strings.number (text a (g.S.Strings.number c.args.key))) c.args.object.now c.in-Some.place (sym c.in-Some.ensures.place)

pub returns-in-Some-clause-added : goal.returns-in-Some-clause-added
returns-in-Some-clause-added g c =
    let a = g.S.Strings.state c.args.store.now in
    c.replace.ensures ∙ put_there (has_units a g.S.Strings.number (text a (g.S.Strings.number c.args.key))) c.args.key
    (content_of c.args.value) c.args.object.now c.in-Some.place (sym c.in-Some.ensures.place)

pub returns-in-Some-clause-keys : goal.returns-in-Some-clause-keys
returns-in-Some-clause-keys g c =
    let state = g.S.Strings.state in
    keys_with (state c.args.store.now) (state c.find.new.store) c.in-Some.ensures.uses.step.grows g.S.Strings.number c.args.key
    (content_of c.args.value) c.requires.key c.args.object.now c.replace.new.self c.requires.keys (returns-in-Some-clause-added g c)

pub returns-in-Some-clause-apart : goal.returns-in-Some-clause-apart
returns-in-Some-clause-apart g c =
    let state = g.S.Strings.state in
    differ_with (state c.args.store.now) (state c.find.new.store) c.in-Some.ensures.uses.step.grows g.S.Strings.number c.args.key
    (content_of c.args.value) c.requires.key c.args.object.now c.replace.new.self c.requires.keys c.requires.apart (returns-in-Some-clause-added g c)

pub returns-in-Some-clause-few : goal.returns-in-Some-clause-few
returns-in-Some-clause-few g c =
    width_with (names_key (g.S.Strings.state c.args.store.now) g.S.Strings.number c.args.key) c.args.key (content_of c.args.value) c.args.object.now c.replace.new.self (returns-in-Some-clause-added g c)

pub enter-requires-clause-apart : goal.enter-requires-clause-apart
enter-requires-clause-apart g c =
    let state = g.S.Strings.state in
    differ_still (state c.args.store.now) (state c.find.new.store) c.in-None.ensures.uses.step.grows g.S.Strings.number c.args.object.now
    c.requires.keys c.requires.apart

pub enter-requires-clause-absent : goal.enter-requires-clause-absent
enter-requires-clause-absent g c =
    let state = g.S.Strings.state in
    place_still (state c.args.store.now) (state c.find.new.store) g.S.Strings.number c.in-None.ensures.uses.step.grows c.args.key
    c.requires.key c.args.object.now c.requires.keys
    ∙ sym c.in-None.ensures.place

pub returns-in_err-enter-in-None-clause-keys : goal.returns-in_err-enter-in-None-clause-keys
returns-in_err-enter-in-None-clause-keys g c =
    let state = g.S.Strings.state in
    keys_still (state c.args.store.now) (state c.find.new.store) c.in-None.ensures.uses.step.grows g.S.Strings.number c.args.object.now c.requires.keys

pub returns-in_err-enter-in-None-clause-apart : goal.returns-in_err-enter-in-None-clause-apart
returns-in_err-enter-in-None-clause-apart g c =
    let state = g.S.Strings.state in
    differ_still (state c.args.store.now) (state c.find.new.store) c.in-None.ensures.uses.step.grows g.S.Strings.number c.args.object.now
    c.requires.keys c.requires.apart

pub returns-in_ok-enter-in-None-clause-added : goal.returns-in_ok-enter-in-None-clause-added
returns-in_ok-enter-in-None-clause-added g c =
    let a = g.S.Strings.state c.args.store.now in
    let e = put_last (has_units a g.S.Strings.number (text a (g.S.Strings.number c.args.key))) c.args.key (content_of c.args.value) c.args.object.now (sym c.in-None.ensures.place) in
    rw (← e) c.push.ensures.added

pub returns-in_ok-enter-in-None-clause-keys : goal.returns-in_ok-enter-in-None-clause-keys
returns-in_ok-enter-in-None-clause-keys g c =
    let state = g.S.Strings.state in
    keys_either (state c.args.store.now) (state c.find.new.store) c.in-None.ensures.uses.step.grows g.S.Strings.number c.args.key
    (content_of c.args.value) c.requires.key c.args.object.now c.push.new.self c.requires.keys c.push.result c.args.object.now refl
    (returns-in_ok-enter-in-None-clause-added g c) c.push.ensures.unchanged

pub returns-in_ok-enter-in-None-clause-apart : goal.returns-in_ok-enter-in-None-clause-apart
returns-in_ok-enter-in-None-clause-apart g c =
    let state = g.S.Strings.state in
    differ_either (state c.args.store.now) (state c.find.new.store) c.in-None.ensures.uses.step.grows g.S.Strings.number c.args.key
    (content_of c.args.value) c.requires.key c.args.object.now c.push.new.self c.requires.keys c.requires.apart c.push.result c.args.object.now
    refl (returns-in_ok-enter-in-None-clause-added g c) c.push.ensures.unchanged

pub returns-in_ok-enter-in-None-clause-few : goal.returns-in_ok-enter-in-None-clause-few
returns-in_ok-enter-in-None-clause-few g c =
    width_either (names_key (g.S.Strings.state c.args.store.now) g.S.Strings.number c.args.key) c.args.key (content_of c.args.value)
    c.args.object.now c.push.new.self c.push.result c.args.object.now refl (returns-in_ok-enter-in-None-clause-added g c) c.push.ensures.unchanged

pub returns-in_ok-enter-in-None-clause-indexed : goal.returns-in_ok-enter-in-None-clause-indexed
returns-in_ok-enter-in-None-clause-indexed g c =
    indexed_either g.S.Strings.number c.enter.new.self c.args.object.now c.push.new.self c.args.key (content_of c.args.value) c.push.result
    c.enter.ensures.stays (c.in_ok-enter-in-None.ensures.next (content_of c.args.value)) c.push.ensures.added c.push.ensures.unchanged

pub returns-in-Some-clause-indexed : goal.returns-in-Some-clause-indexed
returns-in-Some-clause-indexed g c =
    indexed_with g.S.Strings.number c.args.index.now c.in-Some.place (content_of c.args.value) c.args.object.now c.replace.new.self
    c.replace.ensures c.requires.indexed
