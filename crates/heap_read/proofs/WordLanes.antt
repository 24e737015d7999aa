-- The two-byte lanes of a word as pairs of its bytes.
use Rattle.std.proofs.Common.{◌≡◌, ℕ, ◌<◌, ◌^◌, true, get_or, refl}
use Rattle.js_units.specs.Lanes.{lane_of}
use Rattle.js_units.proofs.LaneMarks.{marks_tell, pair_marks, pairs}

pub pair_lane : (word k : ℕ) → word < 2 ^ 64 → k < 4 → get_or (pairs word) k 0 ≡ lane_of true word k
pair_lane word k w l = let u : ℕ = lane_of true word k in ((marks_tell (pairs word) 4 u k refl).0 ((pair_marks word u k w).1 (l, refl))).1
