use Rattle.std.proofs.Common.{◌≡◌, ◌∙◌, ℕ, ◌+◌, ◌<◌, ◌≤◌, ⊎_elim, get_or, get_or-set_other, get_or-set_same, ap, sym, arith}
use Rattle.std.proofs.Math.ListN.{set}
use Rattle.std.proofs.lemmas.Bool.{cases_lt}
use Rattle.js_units.specs.Lanes.{lane_of}
use Rattle.heap_read.proofs.spans.put_lanes.Goals as goal

pub loop-k-preserved : goal.loop-k-preserved
loop-k-preserved c = let s = c.loop-k.invariant in let k = c.loop-k.k in let n = c.args.at + k in let room = c.requires.room in let t = c.loop-k-test.true in
    record {
      most = omega arith;
      before = λ j l. get_or-set_other c.loop-k.into n j c.lane.result 0 (λ d. omega arith) ∙ s.before j l;
      inside = λ j l. ⊎_elim
          (λ (a : j < k). get_or-set_other c.loop-k.into n (c.args.at + j) c.lane.result 0 (λ d. omega arith) ∙ s.inside j a)
          (λ (b : k ≤ j). let e : j ≡ k = omega arith in
          ap (λ (i : ℕ). get_or (set c.loop-k.into n c.lane.result) (c.args.at + i) 0) e
          ∙ (get_or-set_same c.loop-k.into n c.lane.result 0 (omega arith) ∙ (c.lane.ensures ∙ ap (λ (i : ℕ). lane_of c.args.wide c.args.word (c.args.low + i)) (sym e))))
          (cases_lt j k);
    }
