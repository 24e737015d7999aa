use Rattle.std.proofs.Common.{◌≡◌, ◌+◌, ◌-◌, ◌<◌, ◌^◌, Bool, true, false, ℕ, List, get_or, subst, sym, arith}
use Rattle.js_units.specs.Lanes.{lane_count, lane_of}
use Rattle.heap_read.specs.Shifted.{HoldsLanes}
use Rattle.heap_read.proofs.packing.lanes_of.Goals as goal

-- all lanes of a word
full_lanes : (wide : Bool) (word count : ℕ) (unit : ℕ → ℕ) → count ≡ lane_count wide → word < 2 ^ 64 → ((k : ℕ) → k < lane_count wide → lane_of wide word k ≡ unit k) → HoldsLanes wide word count unit
full_lanes true word count unit e s h = record { small = subst (λ (m : ℕ). word < 65536 ^ m) (sym e) s; each = λ k l. h k (omega (arith, e)) }
full_lanes false word count unit e s h = record { small = subst (λ (m : ℕ). word < 256 ^ m) (sym e) s; each = λ k l. h k (omega (arith, e)) }

pub returns-then-count-lanes : goal.returns-then-count-lanes
returns-then-count-lanes c = let us : List ℕ = c.args.units.now in let e : c.args.first + c.args.count - c.args.first ≡ c.args.count = omega arith in
    subst (λ (m : ℕ). HoldsLanes c.args.wide c.some_lanes.result m (λ k. get_or us (c.args.first + k) 0)) e c.some_lanes.ensures

pub returns-then-wide : goal.returns-then-wide
returns-then-wide c = let us : List ℕ = c.args.units.now in let n = c.lanes.ensures in let room = c.requires.room in
    let some = c.if-count-lanes.false in let e : c.args.count ≡ lane_count c.args.wide = omega arith in
    subst (λ (b : Bool). HoldsLanes b c.wide_word.result c.args.count (λ k. get_or us (c.args.first + k) 0)) (sym c.if-wide.true)
    (full_lanes true c.wide_word.result c.args.count (λ k. get_or us (c.args.first + k) 0)
    (subst (λ (b : Bool). c.args.count ≡ lane_count b) c.if-wide.true e) c.wide_word.type_inv c.wide_word.ensures)

pub returns : goal.returns
returns c = let us : List ℕ = c.args.units.now in let n = c.lanes.ensures in let room = c.requires.room in
    let some = c.if-count-lanes.false in let e : c.args.count ≡ lane_count c.args.wide = omega arith in
    subst (λ (b : Bool). HoldsLanes b c.narrow_word.result c.args.count (λ k. get_or us (c.args.first + k) 0)) (sym c.if-wide.false)
    (full_lanes false c.narrow_word.result c.args.count (λ k. get_or us (c.args.first + k) 0)
    (subst (λ (b : Bool). c.args.count ≡ lane_count b) c.if-wide.false e) c.narrow_word.type_inv c.narrow_word.ensures)
