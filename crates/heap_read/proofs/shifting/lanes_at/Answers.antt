use Rattle.std.proofs.Common.{◌≡◌, ◌∙◌, ℕ, ◌*◌, ◌/◌, ◌%◌, ◌^◌, ◌<◌, ap, arith}
use Rattle.std.proofs.lemmas.Nat.{one_shl}
use Rattle.js_units.specs.Lanes.{lane_count}
use Rattle.heap_read.specs.Shifted.{lane_bits}
use Rattle.heap_read.proofs.ShiftedLanes.{bits_below, cut_holds}
use Rattle.heap_read.proofs.shifting.lanes_at.Goals as goal

pub returns : goal.returns
returns c = let wide = c.args.wide in let word = c.args.word in let low = c.args.low in let count = c.args.count in let e = c.lane_bits-bits.ensures in
    let all = c.lanes.ensures in let other = c.if-count-lanes.false in let room = c.requires in
    let less : count < lane_count wide = omega arith in
    let one : 1 * 2 ^ (c.lane_bits-bits.result * count) % 2 ^ 64 ≡ 2 ^ (lane_bits wide * count) = ap
    (λ (b : ℕ). 1 * 2 ^ (b * count) % 2 ^ 64) e ∙ one_shl (lane_bits wide * count) 64 (bits_below wide count less) in
    cut_holds wide word low count (word / 2 ^ (c.lane_bits-bits.result * low) % (1 * 2 ^ (c.lane_bits-bits.result * count) % 2 ^ 64)) (λ i. word / 2 ^ (e i * low) % one i)
