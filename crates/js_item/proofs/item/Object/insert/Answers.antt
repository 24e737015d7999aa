use Rattle.std.proofs.Common.{sym, ◌∙◌}
use Rattle.js_store.specs.State.{text}
use Rattle.js_item.specs.Puts.{has_units, names_key}
use Rattle.js_item.specs.Views.{content_of}
use Rattle.js_item.proofs.Finding.{place_within, put_there, put_last}
use Rattle.js_item.proofs.Sizes.{width_with, width_either}
use Rattle.js_item.proofs.Still.{differ_still, keys_with, keys_without, keys_either, differ_with, differ_without, differ_either}
use Rattle.js_item.proofs.item.Object.insert.Goals as goal

pub replace-requires : goal.replace-requires
replace-requires g c =
    let a = g.S.Strings.state c.args.store.now in
    place_within (has_units a g.S.Strings.number (text a (g.S.Strings.number c.args.key))) c.args.self.now c.in-Some.place (sym c.in-Some.ensures.place)

pub returns-in-Some-clause-added : goal.returns-in-Some-clause-added
returns-in-Some-clause-added g c =
    let a = g.S.Strings.state c.args.store.now in
    c.replace.ensures ∙ put_there (has_units a g.S.Strings.number (text a (g.S.Strings.number c.args.key))) c.args.key
    (content_of c.args.value) c.args.self.now c.in-Some.place (sym c.in-Some.ensures.place)

pub returns-in-Some-clause-keys : goal.returns-in-Some-clause-keys
returns-in-Some-clause-keys g c =
    let state = g.S.Strings.state in
    keys_with (state c.args.store.now) (state c.find.new.store) c.in-Some.ensures.uses.step.grows g.S.Strings.number c.args.key
    (content_of c.args.value) c.requires.key c.args.self.now c.replace.new.self c.requires.keys (returns-in-Some-clause-added g c)

pub returns-in-Some-clause-apart : goal.returns-in-Some-clause-apart
returns-in-Some-clause-apart g c =
    let state = g.S.Strings.state in
    differ_with (state c.args.store.now) (state c.find.new.store) c.in-Some.ensures.uses.step.grows g.S.Strings.number c.args.key
    (content_of c.args.value) c.requires.key c.args.self.now c.replace.new.self c.requires.keys c.requires.apart (returns-in-Some-clause-added g c)

pub returns-in-Some-clause-few : goal.returns-in-Some-clause-few
returns-in-Some-clause-few g c =
    width_with (names_key (g.S.Strings.state c.args.store.now) g.S.Strings.number c.args.key) c.args.key (content_of c.args.value) c.args.self.now c.replace.new.self (returns-in-Some-clause-added g c)

pub returns-in_err-enter-in-None-clause-keys : goal.returns-in_err-enter-in-None-clause-keys
returns-in_err-enter-in-None-clause-keys g c =
    let state = g.S.Strings.state in
    keys_without (state c.args.store.now) (state c.find.new.store) c.in-None.ensures.uses.step.grows g.S.Strings.number c.args.key
    (content_of c.args.value) c.requires.key c.args.self.now c.enter.new.self c.requires.keys c.enter.ensures

pub returns-in_err-enter-in-None-clause-apart : goal.returns-in_err-enter-in-None-clause-apart
returns-in_err-enter-in-None-clause-apart g c =
    let state = g.S.Strings.state in
    differ_without (state c.args.store.now) (state c.find.new.store) c.in-None.ensures.uses.step.grows g.S.Strings.number c.args.key
    (content_of c.args.value) c.requires.key c.args.self.now c.enter.new.self c.requires.keys c.requires.apart c.enter.ensures

pub returns-in_ok-enter-in-None-clause-added : goal.returns-in_ok-enter-in-None-clause-added
returns-in_ok-enter-in-None-clause-added g c =
    let a = g.S.Strings.state c.args.store.now in
    let e = put_last (has_units a g.S.Strings.number (text a (g.S.Strings.number c.args.key))) c.args.key (content_of c.args.value) c.args.self.now (sym c.in-None.ensures.place) in
    rw (← e, ← c.enter.ensures) c.push.ensures.added

pub returns-in_ok-enter-in-None-clause-keys : goal.returns-in_ok-enter-in-None-clause-keys
returns-in_ok-enter-in-None-clause-keys g c =
    let state = g.S.Strings.state in
    keys_either (state c.args.store.now) (state c.find.new.store) c.in-None.ensures.uses.step.grows g.S.Strings.number c.args.key
    (content_of c.args.value) c.requires.key c.args.self.now c.push.new.self c.requires.keys c.push.result c.enter.new.self c.enter.ensures
    (returns-in_ok-enter-in-None-clause-added g c) c.push.ensures.unchanged

pub returns-in_ok-enter-in-None-clause-apart : goal.returns-in_ok-enter-in-None-clause-apart
returns-in_ok-enter-in-None-clause-apart g c =
    let state = g.S.Strings.state in
    differ_either (state c.args.store.now) (state c.find.new.store) c.in-None.ensures.uses.step.grows g.S.Strings.number c.args.key
    (content_of c.args.value) c.requires.key c.args.self.now c.push.new.self c.requires.keys c.requires.apart c.push.result c.enter.new.self
    c.enter.ensures (returns-in_ok-enter-in-None-clause-added g c) c.push.ensures.unchanged

pub returns-in_ok-enter-in-None-clause-few : goal.returns-in_ok-enter-in-None-clause-few
returns-in_ok-enter-in-None-clause-few g c =
    width_either (names_key (g.S.Strings.state c.args.store.now) g.S.Strings.number c.args.key) c.args.key (content_of c.args.value)
    c.args.self.now c.push.new.self c.push.result c.enter.new.self c.enter.ensures (returns-in_ok-enter-in-None-clause-added g c) c.push.ensures.unchanged

pub enter-requires-clause-apart : goal.enter-requires-clause-apart
enter-requires-clause-apart g c =
    let state = g.S.Strings.state in
    differ_still (state c.args.store.now) (state c.find.new.store) c.in-None.ensures.uses.step.grows g.S.Strings.number c.args.self.now
    c.requires.keys c.requires.apart
