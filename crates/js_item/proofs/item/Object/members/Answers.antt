use Rattle.std.proofs.Common.{◌≡◌, length, ap, arith}
use Rattle.js_item.specs.Puts.{width}
use Rattle.js_item.specs.Views.{fields_of}
use Rattle.js_item.proofs.Finding.{width_is}
use Rattle.js_item.proofs.item.Object.members.Goals as goal

pub returns-clause-len : goal.returns-clause-len
returns-clause-len g c =
    let w : width (fields_of c.self.inside.members.items) ≡ width c.args.self.now = ap width c.self.view_is in
    omega (arith, w, width_is c.self.inside.members.items, ap length c.as_slice.ensures.value)
