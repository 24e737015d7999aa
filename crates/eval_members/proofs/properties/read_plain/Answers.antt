use Rattle.js_item.proofs.Still.{fine_fields_still}
use Rattle.eval_members.proofs.Lookups.{plain_does}
use Rattle.eval_members.proofs.properties.read_plain.Goals as goal

pub own_or_undefined-requires-clause-fine : goal.own_or_undefined-requires-clause-fine
own_or_undefined-requires-clause-fine g c = fine_fields_still (g.S.Strings.state c.args.store.now)
    (g.S.Strings.state c.intern_units.new.store) c.in_ok-key.ensures.grows g.S.Strings.number c.args.object.now c.requires.fine

pub returns-clause-did : goal.returns-clause-did
returns-clause-did g c =
    let state = g.S.Strings.state in
    let e = c.in_ok-key.ensures in
    plain_does g.S.Strings.number (state c.args.store.now) (state c.intern_units.new.store) (state c.own_or_undefined.new.store) e.grows
    c.args.object.now c.requires.fine c.in_ok-key.key c.args.key.now c.own_or_undefined.result e.did c.own_or_undefined.ensures.did
