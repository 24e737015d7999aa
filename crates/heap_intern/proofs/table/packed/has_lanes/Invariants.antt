use Rattle.std.proofs.Common.{◌≡◌, ◌/◌, ◌^◌}
use Rattle.js_units.specs.Lanes.{lane_base}
use Rattle.heap_intern.specs.Packed.{AreLanes}
use Rattle.heap_intern.proofs.table.packed.has_lanes.Given as goal

abbrev pub invariant-loop-k : goal.invariant-loop-k
invariant-loop-k l = record {
  rest : l.rest ≡ l.word / lane_base l.wide ^ l.k;
  same : AreLanes l.wide l.word l.units l.at l.k;
}
