use Rattle.std.proofs.Common.{arith}
use Rattle.js_item.proofs.Finding.{key_there, place_there}
use Rattle.js_item.proofs.item.Object.find_by_index.Goals as goal

pub same-requires-clause-left : goal.same-requires-clause-left
same-requires-clause-left g c =
    (key_there (g.S.Strings.state c.args.store.now) g.S.Strings.number c.args.self.now c.members-members.result.now
    c.members-members.ensures.fields c.in_ok-place.place c.index-members-place.result (omega (arith, c.if-place-members.false))
    c.index-members-place.is c.requires.keys).known

pub same-requires-clause-left_interned : goal.same-requires-clause-left_interned
same-requires-clause-left_interned g c = (
  _,
  (key_there (g.S.Strings.state c.args.store.now) g.S.Strings.number c.args.self.now c.members-members.result.now
      c.members-members.ensures.fields c.in_ok-place.place c.index-members-place.result (omega (arith, c.if-place-members.false))
      c.index-members-place.is c.requires.keys).interned,
)

pub returns-then-same-clause-place : goal.returns-then-same-clause-place
returns-then-same-clause-place g c =
    place_there (g.S.Strings.state c.args.store.now) g.S.Strings.number c.args.self.now c.members-members.result.now
    c.members-members.ensures.fields c.in_ok-place.place c.index-members-place.result (omega (arith, c.if-place-members.false))
    c.index-members-place.is c.args.key c.same.result c.requires.apart c.same.ensures.units c.if-same.true
