use Rattle.js_item.specs.Fine.{strings_of}
use Rattle.js_item.proofs.Still.{fine_keys, fine_differ}
use Rattle.js_eval.proofs.Making.{put_does}
use Rattle.js_eval.proofs.object.put.Goals as goal

pub insert-requires-clause-keys : goal.insert-requires-clause-keys
insert-requires-clause-keys g c = fine_keys (strings_of (g.S.Strings.state c.args.store.now)) g.S.Strings.number c.args.object c.requires.object

pub insert-requires-clause-apart : goal.insert-requires-clause-apart
insert-requires-clause-apart g c = fine_differ (strings_of (g.S.Strings.state c.args.store.now)) g.S.Strings.number c.args.object c.requires.object

pub returns-clause-fine : goal.returns-clause-fine
returns-clause-fine g c =
    let state = g.S.Strings.state in
    let e = c.in_ok-insert.ensures in
    (put_does g.S.Strings.number (state c.args.store.now) (state c.insert.new.store) c.args.object c.args.key c.args.value e.uses.step
    e.uses.history c.insert.new.self c.requires.object c.requires.key c.requires.value e.added).good

pub returns-clause-did : goal.returns-clause-did
returns-clause-did g c =
    let state = g.S.Strings.state in
    let e = c.in_ok-insert.ensures in
    put_does g.S.Strings.number (state c.args.store.now) (state c.insert.new.store) c.args.object c.args.key c.args.value e.uses.step
    e.uses.history c.insert.new.self c.requires.object c.requires.key c.requires.value e.added
