use Rattle.std.proofs.Common.{rules, arith}
use Rattle.heap_rule.specs.Contents.{span}
use Rattle.heap_rule.specs.Views.{shown_word}
use Rattle.heap_core_views.proofs.KindLemmas.{span_step}
use Rattle.heap_core_births.proofs.births.span.Goals as goal

pub lanes-preserved : goal.lanes-preserved
lanes-preserved c = (
  span_step (shown_word c.args.view.now) c.args.wide c.args.start c.lanes.o c.args.n c.shown_lane.result c.lanes.units c.push.new.self
      (span (shown_word c.args.view.now) c.args.wide c.args.start 0 c.args.n) (omega arith) c.lanes.invariant.0 (search rules) c.shown_lane.ensures,
  omega arith,
)
