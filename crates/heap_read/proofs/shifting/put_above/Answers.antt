use Rattle.std.proofs.Common.{◌≡◌, ◌∙◌, ℕ, ◌+◌, ◌*◌, ◌%◌, ◌^◌, ◌<◌, Fits, w64, ap, subst, sym, arith}
use Rattle.js_units.specs.Lanes.{lane_base, lane_of}
use Rattle.heap_read.specs.Shifted.{lane_bits}
use Rattle.heap_read.proofs.ShiftedLanes.{above_exact, above_fits, above_high, above_low, above_small, none_above, none_small}
use Rattle.heap_read.proofs.shifting.put_above.Goals as goal

pub returns-then-upper-eq0-clause-small : goal.returns-then-upper-eq0-clause-small
returns-then-upper-eq0-clause-small c m l = none_small c.args.wide c.args.word c.args.count m c.requires.small

pub returns-then-upper-eq0-clause-above : goal.returns-then-upper-eq0-clause-above
returns-then-upper-eq0-clause-above c q = none_above c.args.wide c.args.word c.args.upper c.args.count q c.if-upper-eq0.true c.requires.small

pub overflow_add-result : goal.overflow_add-result
overflow_add-result c = let wide = c.args.wide in let upper = c.args.upper in let word = c.args.word in let count = c.args.count in let room = c.requires.room in
    let value : word + upper * 2 ^ (c.lane_bits.result * count) % 2 ^ 64 ≡ word + upper * 2 ^ (lane_bits wide * count) =
    ap (λ (b : ℕ). word + upper * 2 ^ (b * count) % 2 ^ 64) c.lane_bits.ensures ∙ ap (λ (n : ℕ). word + n) (above_exact wide upper count room.0 room.1 room.2) in
    let fit = above_fits wide word upper count room.0 room.1 c.requires.small room.2 in subst (λ (n : ℕ). Fits w64 n) (sym value) (omega arith)

pub returns-clause-small : goal.returns-clause-small
returns-clause-small c m l = let wide = c.args.wide in let upper = c.args.upper in let word = c.args.word in let count = c.args.count in let room = c.requires.room in
    let value : word + upper * 2 ^ (c.lane_bits.result * count) % 2 ^ 64 ≡ word + upper * 2 ^ (lane_bits wide * count) =
    ap (λ (b : ℕ). word + upper * 2 ^ (b * count) % 2 ^ 64) c.lane_bits.ensures ∙ ap (λ (n : ℕ). word + n) (above_exact wide upper count room.0 room.1 room.2) in
    subst (λ (n : ℕ). n < lane_base wide ^ (count + m)) (sym value) (above_small wide word upper count m c.requires.small l)

pub returns-clause-below : goal.returns-clause-below
returns-clause-below c q l = let wide = c.args.wide in let upper = c.args.upper in let word = c.args.word in let count = c.args.count in let room = c.requires.room in
    let value : word + upper * 2 ^ (c.lane_bits.result * count) % 2 ^ 64 ≡ word + upper * 2 ^ (lane_bits wide * count) =
    ap (λ (b : ℕ). word + upper * 2 ^ (b * count) % 2 ^ 64) c.lane_bits.ensures ∙ ap (λ (n : ℕ). word + n) (above_exact wide upper count room.0 room.1 room.2) in
    ap (λ (n : ℕ). lane_of wide n q) value ∙ above_low wide word upper count q c.requires.small l

pub returns-clause-above : goal.returns-clause-above
returns-clause-above c q = let wide = c.args.wide in let upper = c.args.upper in let word = c.args.word in let count = c.args.count in let room = c.requires.room in
    let value : word + upper * 2 ^ (c.lane_bits.result * count) % 2 ^ 64 ≡ word + upper * 2 ^ (lane_bits wide * count) =
    ap (λ (b : ℕ). word + upper * 2 ^ (b * count) % 2 ^ 64) c.lane_bits.ensures ∙ ap (λ (n : ℕ). word + n) (above_exact wide upper count room.0 room.1 room.2) in
    ap (λ (n : ℕ). lane_of wide n (count + q)) value ∙ above_high wide word upper count q c.requires.small
