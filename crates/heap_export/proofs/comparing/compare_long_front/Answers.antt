use Rattle.std.proofs.Common.{◌+◌, ◌∙◌, ℕ, ap, sym, drop, arith}
use Rattle.std.proofs.lemmas.List.{length-take-le}
use Rattle.std.specs.Ordering.{ordering_then}
use Rattle.js_search.specs.Order.{units_cmp}
use Rattle.heap_table.specs.Agents.{view_of}
use Rattle.heap_export.proofs.UnitByUnit.{decided, is_equal, is_other}
use Rattle.heap_export.proofs.Windows.{loads_on, still_shown, window_there}
use Rattle.heap_export.proofs.comparing.compare_long_front.Goals as goal

pub compare_span-order-requires-clause-window : goal.compare_span-order-requires-clause-window
compare_span-order-requires-clause-window g c = window_there (view_of c.args.text.now.reader.agent) (view_of c.loop-at.text.reader.agent) c.args.w c.requires.window c.loop-at.invariant.loads

pub loop-at-preserved : goal.loop-at-preserved
loop-at-preserved g c = let v = view_of c.args.text.now.reader.agent in let u = view_of c.loop-at.text.reader.agent in
    let inv = c.loop-at.invariant in let e = c.compare_span-order.ensures in let next = c.loop-at.at + c.min-count.result in
    let units = c.args.units.now in let m = c.min-count.ensures in let t = c.loop-at-test.true in let most = inv.most in record {
      most = omega arith;
      kept = record { heap = e.kept.heap ∙ inv.kept.heap; limit = e.kept.limit ∙ inv.kept.limit };
      loads = loads_on v u (view_of c.compare_span-order.new.text.reader.agent) inv.loads e.loads;
      rest = λ us h. let o = e.order us (still_shown v u c.args.w us inv.loads h) in
          let same = is_equal c.compare_span-order.result (sym c.ne.ensures ∙ c.if-ne.false) in
          let size = length-take-le c.min-count.result c.loop-at.room (omega arith) in
          let at = ap (λ (n : ℕ). ordering_then c.compare_span-order.result (units_cmp (drop (c.loop-at.at + n) us) (drop (c.loop-at.at + n) units))) size in
          sym (o ∙ (at ∙ ap (λ p. ordering_then p (units_cmp (drop next us) (drop next units))) same)) ∙ inv.rest us h;
    }

pub returns-then-ne-clause-loads : goal.returns-then-ne-clause-loads
returns-then-ne-clause-loads g c = loads_on (view_of c.args.text.now.reader.agent) (view_of c.loop-at.text.reader.agent) (view_of c.compare_span-order.new.text.reader.agent)
    c.loop-at.invariant.loads c.compare_span-order.ensures.loads

pub returns-then-ne-clause-order : goal.returns-then-ne-clause-order
returns-then-ne-clause-order g c us h = let v = view_of c.args.text.now.reader.agent in let u = view_of c.loop-at.text.reader.agent in
    let inv = c.loop-at.invariant in let o = c.compare_span-order.ensures.order us (still_shown v u c.args.w us inv.loads h) in
    sym (inv.rest us h) ∙ (o ∙ decided c.compare_span-order.result _ _ (is_other c.compare_span-order.result (sym c.ne.ensures ∙ c.if-ne.true)))
