use Rattle.js_object.proofs.Orders.{own_keys_order}
use Rattle.js_object.proofs.keys.own_keys.Goals as goal

pub returns-in-Ok-clause-order : goal.returns-in-Ok-clause-order
returns-in-Ok-clause-order g c = own_keys_order (g.S.Strings.state c.args.store.now) g.S.Strings.number c.args.of.now c.in-Ok.keys.items c.in-Ok.ensures.value
