use Rattle.std.proofs.Common.{◌∙◌, sym, arith}
use Rattle.js_units.specs.Lanes.{is_wide}
use Rattle.heap_read.proofs.LanesAtOnce.{last_wide, wide_behind, wide_here}
use Rattle.heap_read.proofs.packing.has_wide.Goals as goal

pub returns-then-has_wide_eight : goal.returns-then-has_wide_eight
returns-then-has_wide_eight c = let us = c.args.units.now in sym (wide_here us c.loop-done.done 8 (is_wide us) c.loop-done.invariant.rest (sym c.has_wide_eight.ensures ∙ c.if-has_wide_eight.true))

pub loop-done-preserved : goal.loop-done-preserved
loop-done-preserved c = let us = c.args.units.now in let t = c.loop-done-test.true in let m = c.loop-done.invariant.most in record {
  most = omega arith;
  rest = wide_behind us c.loop-done.done 8 (is_wide us) c.loop-done.invariant.rest (sym c.has_wide_eight.ensures ∙ c.if-has_wide_eight.false);
}

pub returns : goal.returns
returns c = let us = c.args.units.now in c.has_wide.ensures ∙ (last_wide us c.loop-done.done ∙ c.loop-done.invariant.rest)
