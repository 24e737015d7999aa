use Rattle.std.proofs.Common.{refl}
use Rattle.heap_rule.specs.declared.view.View.{View}
use Rattle.heap_rule.specs.Views.{MayUse}
use Rattle.heap_core.specs.Core.{core_of}
use Rattle.heap_core.specs.Events.{LiveIn}
use Rattle.heap_core.proofs.LoadSteps.{known_stands, header_room_by, header_not_live, header_tells}
use Rattle.heap_core.proofs.machine.Machine.may_load_header.Goals as goal

pub returns-in_default : goal.returns-in_default
returns-in_default c = header_not_live (core_of c.args.self.now) c.requires c.args.view c.args.id c.args.length c.args.names.now (c.in_default.ensures.none refl)

pub header_load-requires-clause-born : goal.header_load-requires-clause-born
header_load-requires-clause-born c = let e = c.in-Some.ensures.some in
    let t : LiveIn c.args.self.now.views.items c.args.view (λ (v : View). MayUse v c.args.id) = (
      c.in-Some.v.now,
      e.0,
      e.1,
      c.if-not-is_known.ensures.0 refl,
    ) in (known_stands (core_of c.args.self.now) c.requires c.args.view c.args.id t).1

pub justifies_all-requires : goal.justifies_all-requires
justifies_all-requires c = let e = c.in-Some.ensures.some in
    let t : LiveIn c.args.self.now.views.items c.args.view (λ (v : View). MayUse v c.args.id) = (
      c.in-Some.v.now,
      e.0,
      e.1,
      c.if-not-is_known.ensures.0 refl,
    ) in header_room_by (core_of c.args.self.now) c.requires c.args.view c.args.id c.args.length
    c.header_load.result t c.header_load.ensures

pub returns : goal.returns
returns c = let e = c.in-Some.ensures.some in
    let t : LiveIn c.args.self.now.views.items c.args.view (λ (v : View). MayUse v c.args.id) = (
      c.in-Some.v.now,
      e.0,
      e.1,
      c.if-not-is_known.ensures.0 refl,
    ) in header_tells (core_of c.args.self.now) c.requires c.args.view c.args.id c.args.length
    c.args.names.now c.header_load.result c.justifies_all.result t c.header_load.ensures c.justifies_all.ensures
