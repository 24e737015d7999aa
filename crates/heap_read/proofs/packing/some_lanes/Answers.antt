use Rattle.std.proofs.Common.{◌≡◌, ◌<◌, ◌+◌, ◌-◌, ◌*◌, ◌^◌, ◌∙◌, ℕ, List, suc, get_or, ap, subst, sym, arith}
use Rattle.js_units.specs.Lanes.{lane_base, lane_count, lane_of}
use Rattle.js_units.proofs.PackedWords.{base_some, lanes_then, one_more, lane_fits}
use Rattle.heap_read.proofs.packing.some_lanes.Goals as goal

pub overflow_mul-word : goal.overflow_mul-word
overflow_mul-word c = let wide = c.args.wide in let i = c.loop-i.i in let a = c.loop-i.invariant.above in let b = c.loop-i.invariant.below in let t = c.loop-i-test.true in let r = c.requires.room in
    let l : c.args.to - i < lane_count wide = omega arith in
    let h = (one_more wide (c.args.to - i) c.loop-i.word 0 l c.loop-i.invariant.small (base_some wide)).1 in rw c.lane_size-base.ensures (omega arith)

pub overflow_add-word : goal.overflow_add-word
overflow_add-word c = let wide = c.args.wide in let us : List ℕ = c.args.units.now in let i = c.loop-i.i in let o : ℕ = i - 1 in let unit = c.unit_of.result in let u = c.unit_of.ensures in
    let a = c.loop-i.invariant.above in let b = c.loop-i.invariant.below in let t = c.loop-i-test.true in let r = c.requires.room in let w = c.requires.within in
    let l : c.args.to - i < lane_count wide = omega arith in
    let fits : unit < lane_base wide = subst (λ (n : ℕ). n < lane_base wide) (sym u.unit) (lane_fits wide us o c.requires.fits (omega arith) (subst (λ (n : ℕ). n < 65536) u.unit u.fits)) in
    let h = (one_more wide (c.args.to - i) c.loop-i.word unit l c.loop-i.invariant.small fits).1 in rw (c.lane_size-base.ensures, c.from.ensures) (omega arith)

pub loop-i-preserved : goal.loop-i-preserved
loop-i-preserved c = let wide = c.args.wide in let us : List ℕ = c.args.units.now in let i = c.loop-i.i in let o : ℕ = i - 1 in
    let unit = c.unit_of.result in let u = c.unit_of.ensures in let to = c.args.to in
    let a = c.loop-i.invariant.above in let b = c.loop-i.invariant.below in let t = c.loop-i-test.true in let r = c.requires.room in let w = c.requires.within in
    let l : to - i < lane_count wide = omega arith in
    let fits : unit < lane_base wide = subst (λ (n : ℕ). n < lane_base wide) (sym u.unit) (lane_fits wide us o c.requires.fits (omega arith) (subst (λ (n : ℕ). n < 65536) u.unit u.fits)) in
    let word : c.loop-i.word * c.lane_size-base.result + c.from.result ≡ c.loop-i.word * lane_base wide + unit = (λ j. c.loop-i.word * c.lane_size-base.ensures j + c.from.ensures j) in
    let next : suc (to - i) ≡ to - (i - 1) = omega arith in let back : i ≡ suc o = omega arith in record {
      above = omega arith;
      below = omega arith;
      small = subst (λ (d : ℕ). c.loop-i.word * c.lane_size-base.result + c.from.result < lane_base wide ^ d) next
          (subst (λ (n : ℕ). n < lane_base wide ^ suc (to - i)) (sym word) (one_more wide (to - i) c.loop-i.word unit l c.loop-i.invariant.small fits).0);
      lanes = λ q n. ap (λ (x : ℕ). lane_of wide x q) word ∙ lanes_then wide (to - i) c.loop-i.word unit us o l fits u.unit
          (λ p k. c.loop-i.invariant.lanes p k ∙ ap (λ (x : ℕ). get_or us (x + p) 0) back) q (omega arith);
    }

pub returns : goal.returns
returns c = let us : List ℕ = c.args.units.now in let i = c.loop-i.i in let a = c.loop-i.invariant.above in let t = c.loop-i-test.false in let e : i ≡ c.args.from = omega arith in record {
  small = subst (λ (m : ℕ). c.loop-i.word < lane_base c.args.wide ^ (c.args.to - m)) e c.loop-i.invariant.small;
  each = λ q l. c.loop-i.invariant.lanes q (omega (arith, l, e)) ∙ ap (λ (m : ℕ). get_or us (m + q) 0) e;
}
