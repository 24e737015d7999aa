use Rattle.std.proofs.Common.{length, sym, ◌∙◌, rules}
use Rattle.heap_rule.specs.SlotTests.{other_lane}
use Rattle.heap_core_views.proofs.Behind.{any_at}
use Rattle.heap_core_views.proofs.slots.has_other_flat.Goals as goal

pub returns-then-has_other_lane : goal.returns-then-has_other_lane
returns-then-has_other_lane c =
    let t = c.loop-o-test.true in sym (any_at (other_lane c.args.view.now c.args.us.now c.args.wide c.args.start) (length c.args.us.now)
    c.loop-o.o (search rules) (sym c.has_other_lane.ensures ∙ c.if-has_other_lane.true))
