use Rattle.js_item.proofs.Still.{fine_fields_still}
use Rattle.js_object.proofs.Settled.{settled_fields_still}
use Rattle.js_object.proofs.serialize.stringify.Goals as goal

pub returns-clause-settled : goal.returns-clause-settled
returns-clause-settled g c h =
    let state = g.S.Strings.state in
    let number = g.S.Strings.number in
    let a = state c.args.store.now in
    let b = state c.object_len.new.store in
    settled_fields_still (state c.append_object.new.store) _ number c.in_ok-from_units.ensures.uses.step.grows c.args.of.now
    (c.in_ok-append_object.ensures.settled (fine_fields_still a b c.in_ok-length.ensures.uses.step.grows number c.args.of.now h))
