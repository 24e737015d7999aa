use Rattle.js_item.specs.Fine.{strings_of}
use Rattle.js_item.specs.Puts.{width}
use Rattle.js_item.proofs.Indexing.{fresh_absent, indexed_still, indexed_then}
use Rattle.js_item.proofs.index.Index.enter.Goals as goal

pub returns-in-Some-clause-stays : goal.returns-in-Some-clause-stays
returns-in-Some-clause-stays g c =
    let number = g.S.Strings.number in
    let fresh = fresh_absent number (strings_of (g.S.Strings.state c.args.store.now)) c.args.key c.args.object.now c.requires.absent in
    indexed_still number c.begin.new.self c.note.new.self (number c.args.key) (width c.args.object.now) c.args.object.now c.note.result
    (rw (← c.in-Some.ensures, ← c.members.ensures.len) c.note.ensures.noted) c.note.ensures.unchanged fresh c.begin.ensures

pub returns-in-Some-clause-next : goal.returns-in-Some-clause-next
returns-in-Some-clause-next g c =
    let number = g.S.Strings.number in
    let fresh = fresh_absent number (strings_of (g.S.Strings.state c.args.store.now)) c.args.key c.args.object.now c.requires.absent in
    indexed_then number c.begin.new.self c.note.new.self c.args.key c.args.object.now c.note.result
    (rw (← c.in-Some.ensures, ← c.members.ensures.len) c.note.ensures.noted) fresh c.begin.ensures
