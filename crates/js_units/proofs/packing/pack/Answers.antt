use Rattle.std.proofs.Common.{◌≡◌, ◌<◌, ◌+◌, ◌-◌, ◌*◌, ◌^◌, ◌∙◌, ℕ, List, suc, get_or, length, ap, subst, sym, arith}
use Rattle.std.specs.Prelude.{min}
use Rattle.js_units.specs.Lanes.{lane_base, lane_count, lane_of}
use Rattle.js_units.proofs.PackedWords.{base_some, lanes_then, one_more, lane_fits, word_packed}
use Rattle.js_units.proofs.packing.pack.Goals as goal

pub overflow_mul-word : goal.overflow_mul-word
overflow_mul-word c = let wide = c.args.wide in let i = c.loop-i.i in let a = c.loop-i.invariant.above in
    let b = c.loop-i.invariant.below in let t = c.loop-i-test.true in let m = c.min-to.ensures in let e = c.lanes-lanes.ensures in
    let l : c.min-to.result - i < lane_count wide = omega arith in
    let h = (one_more wide (c.min-to.result - i) c.loop-i.word 0 l c.loop-i.invariant.small (base_some wide)).1 in rw c.lane_size-base.ensures (omega arith)

pub overflow_add-word : goal.overflow_add-word
overflow_add-word c = let wide = c.args.wide in let us : List ℕ = c.args.units.now in let i = c.loop-i.i in let o : ℕ = i - 1 in let unit = c.unit_of.result in let u = c.unit_of.ensures in
    let a = c.loop-i.invariant.above in let b = c.loop-i.invariant.below in let t = c.loop-i-test.true in let m = c.min-to.ensures in let e = c.lanes-lanes.ensures in
    let l : c.min-to.result - i < lane_count wide = omega arith in
    let fits : unit < lane_base wide = subst (λ (n : ℕ). n < lane_base wide) (sym u.unit) (lane_fits wide us o c.requires.fits (omega arith) (subst (λ (n : ℕ). n < 65536) u.unit u.fits)) in
    let h = (one_more wide (c.min-to.result - i) c.loop-i.word unit l c.loop-i.invariant.small fits).1 in rw (c.lane_size-base.ensures, c.from.ensures) (omega arith)

pub loop-i-preserved : goal.loop-i-preserved
loop-i-preserved c = let wide = c.args.wide in let us : List ℕ = c.args.units.now in let i = c.loop-i.i in let o : ℕ = i - 1 in
    let unit = c.unit_of.result in let u = c.unit_of.ensures in let to = c.min-to.result in
    let a = c.loop-i.invariant.above in let b = c.loop-i.invariant.below in let t = c.loop-i-test.true in let m = c.min-to.ensures in let e = c.lanes-lanes.ensures in
    let l : to - i < lane_count wide = omega arith in
    let fits : unit < lane_base wide = subst (λ (n : ℕ). n < lane_base wide) (sym u.unit) (lane_fits wide us o c.requires.fits (omega arith) (subst (λ (n : ℕ). n < 65536) u.unit u.fits)) in
    let word : c.loop-i.word * c.lane_size-base.result + c.from.result ≡ c.loop-i.word * lane_base wide + unit = (λ j. c.loop-i.word * c.lane_size-base.ensures j + c.from.ensures j) in
    let next : suc (to - i) ≡ to - (i - 1) = omega arith in let back : i ≡ suc o = omega arith in record {
      above = omega arith;
      below = omega arith;
      small = subst (λ (d : ℕ). c.loop-i.word * c.lane_size-base.result + c.from.result < lane_base wide ^ d) next
          (subst (λ (n : ℕ). n < lane_base wide ^ suc (to - i)) (sym word) (one_more wide (to - i) c.loop-i.word unit l c.loop-i.invariant.small fits).0);
      lanes = λ q n. ap (λ (x : ℕ). lane_of wide x q) word ∙ lanes_then wide (to - i) c.loop-i.word unit us o l fits u.unit
          (λ p k. c.loop-i.invariant.lanes p k ∙ ap (λ (x : ℕ). get_or us (x + p) 0) back) q (omega arith);
    }

pub returns : goal.returns
returns c = let wide = c.args.wide in let us : List ℕ = c.args.units.now in let i = c.loop-i.i in let a = c.loop-i.invariant.above in let t = c.loop-i-test.false in let e = c.lanes-lanes.ensures in
    let first : c.args.at * c.lanes-lanes.result ≡ i = omega arith in
    word_packed wide us c.args.at i c.min-to.result c.loop-i.word (sym first ∙ ap (λ (n : ℕ). c.args.at * n) e)
    (c.min-to.ensures ∙ (λ j. min (length us) (first j + e j))) c.loop-i.invariant.small c.loop-i.invariant.lanes
