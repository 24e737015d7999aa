use Rattle.std.proofs.Common.{◌≡◌, ◌<◌, ◌≤◌, ◌+◌, ◌-◌, ◌^◌, ℕ, Bool, true, false, subst, sym}
use Rattle.js_units.specs.Lanes.{lane_base, lane_count, lane_of}
use Rattle.heap_read.specs.Shifted.{HoldsLanes}
use Rattle.heap_read.specs.Written.{held_unit}
use Rattle.heap_read.proofs.ShiftedLanes.{four_most, half_word, holds_as, other_width, part_unit_is}
use Rattle.heap_read.proofs.source.HeldWord.part.Goals as goal

pub widened-requires : goal.widened-requires
widened-requires c = let h = c.args.self.now in let count = c.args.count in let most : count ≤ 4 = subst (λ (b : Bool). count ≤ lane_count b) c.if-wide.true c.requires.room in
    let narrow : h.wide ≡ false = other_width h.wide c.args.wide true c.if-self-wide.false c.if-wide.true in
    half_word count c.lanes_at-lanes.result most (subst (λ (b : Bool). c.lanes_at-lanes.result < lane_base b ^ count) narrow c.lanes_at-lanes.ensures.small)

pub returns-then-wide : goal.returns-then-wide
returns-then-wide c = let h = c.args.self.now in let i = c.args.i in let count = c.args.count in let most : count ≤ 4 = subst (λ (b : Bool). count ≤ lane_count b) c.if-wide.true c.requires.room in
    let narrow : h.wide ≡ false = other_width h.wide c.args.wide true c.if-self-wide.false c.if-wide.true in let unit : ℕ → ℕ = λ k. held_unit h (i + k) in
    let lanes : HoldsLanes h.wide c.lanes_at-lanes.result count unit = holds_as h.wide c.lanes_at-lanes.result count
    (λ k. lane_of h.wide h.word (h.lane + (i - h.from) + k)) unit c.lanes_at-lanes.ensures (λ k l. part_unit_is h i k c.requires.has.low) in
    subst (λ (b : Bool). HoldsLanes b c.widened.result count unit) (sym c.if-wide.true)
    (c.widened.ensures count unit most (subst (λ (b : Bool). HoldsLanes b c.lanes_at-lanes.result count unit) narrow lanes))

pub returns : goal.returns
returns c = let h = c.args.self.now in let i = c.args.i in let count = c.args.count in
    let wide : h.wide ≡ true = other_width h.wide c.args.wide false c.if-self-wide.false c.if-wide.false in let unit : ℕ → ℕ = λ k. held_unit h (i + k) in
    let lanes : HoldsLanes h.wide c.lanes_at-lanes.result count unit = holds_as h.wide c.lanes_at-lanes.result count
    (λ k. lane_of h.wide h.word (h.lane + (i - h.from) + k)) unit c.lanes_at-lanes.ensures (λ k l. part_unit_is h i k c.requires.has.low) in
    subst (λ (b : Bool). HoldsLanes b c.narrowed.result count unit) (sym c.if-wide.false)
    (c.narrowed.ensures count unit (four_most h i count wide c.requires.has) (c.requires.fits c.if-wide.false) (subst (λ (b : Bool). HoldsLanes b c.lanes_at-lanes.result count unit) wide lanes))
