use Rattle.std.proofs.Common.{◌-◌, ◌+◌, ◌*◌, ◌/◌, ◌^◌}
use Rattle.std.specs.Prelude.{false, true}
use Rattle.heap_read.proofs.ShiftedLanes.{lane_shifted}
use Rattle.heap_intern.proofs.Packed.{held_match}
use Rattle.heap_intern.proofs.table.packed.has_list_at.Goals as goal

pub returns-then-held : goal.returns-then-held
returns-then-held c = let h = c.args.held.now in let low = h.lane + (c.args.i - h.from) in
    held_match h true c.args.units.now (h.word / 2 ^ (16 * low)) c.args.i c.args.count c.has_wide_lanes.result c.if-held.true c.requires.has.low (λ k. lane_shifted true h.word low k) c.has_wide_lanes.ensures

pub returns : goal.returns
returns c = let h = c.args.held.now in let low = h.lane + (c.args.i - h.from) in
    held_match h false c.args.units.now (h.word / 2 ^ (8 * low)) c.args.i c.args.count c.has_narrow_lanes.result c.if-held.false c.requires.has.low (λ k. lane_shifted false h.word low k) c.has_narrow_lanes.ensures
