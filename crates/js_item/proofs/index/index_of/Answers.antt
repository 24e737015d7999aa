use Rattle.js_item.specs.Fine.{strings_of}
use Rattle.js_item.proofs.Indexing.{indexed_turn}
use Rattle.js_item.proofs.index.index_of.Goals as goal

pub loop-place-preserved : goal.loop-place-preserved
loop-place-preserved g c =
    indexed_turn g.S.Strings.number (strings_of (g.S.Strings.state c.args.store.now)) c.args.members.now c.loop-place.place
    c.index-members-place.result c.loop-place.index c.note.new.self c.in-Some.number c.loop-place-test.true c.index-members-place.is
    c.requires.apart c.in-Some.ensures c.in_ok-note-in-Some.ensures.noted c.loop-place.invariant
