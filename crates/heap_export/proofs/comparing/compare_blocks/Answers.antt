use Rattle.std.proofs.Common.{◌+◌, ◌∙◌, ℕ, ap, sym, drop, arith}
use Rattle.std.proofs.lemmas.List.{length-take-le}
use Rattle.std.specs.Ordering.{ordering_then}
use Rattle.js_search.specs.Order.{units_cmp}
use Rattle.heap_read.proofs.Loaded.{reads_trans}
use Rattle.heap_export.proofs.UnitByUnit.{is_equal}
use Rattle.heap_export.proofs.comparing.compare_blocks.Goals as goal

pub loop-done-preserved : goal.loop-done-preserved
loop-done-preserved g c = let inv = c.loop-done.invariant in let e = c.compare_block-order.ensures in let known = inv.reads.known.units in let next = c.loop-done.done + c.min-count.result in
    let m = c.min-count.ensures in let t = c.loop-done-test.true in let most = inv.most in record {
      most = omega arith;
      kept = record { heap = e.kept.heap ∙ inv.kept.heap; limit = e.kept.limit ∙ inv.kept.limit };
      reads = reads_trans _ _ _ inv.reads e.reads;
      rest = λ us vs h k. let o = e.order us vs (known c.args.a.id us h) (known c.args.b.id vs k) in
          let same = is_equal c.compare_block-order.result (sym c.ne.ensures ∙ c.if-ne.false) in
          let size = length-take-le c.min-count.result c.loop-done.left (omega arith) in
          let at = ap (λ (n : ℕ). ordering_then c.compare_block-order.result (units_cmp (drop (c.loop-done.done + n) us) (drop (c.loop-done.done + n) vs))) size in
          sym (o ∙ (at ∙ ap (λ p. ordering_then p (units_cmp (drop next us) (drop next vs))) same)) ∙ inv.rest us vs h k;
    }
