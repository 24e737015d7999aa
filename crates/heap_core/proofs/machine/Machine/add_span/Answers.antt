use Rattle.std.proofs.Common.{◌+◌, ◌++◌, rules, arith}
use Rattle.heap_rule.specs.Layout.{content}
use Rattle.heap_rule.specs.Contents.{span}
use Rattle.heap_core_views.proofs.KindLemmas.{span_step}
use Rattle.heap_core.proofs.machine.Machine.add_span.Goals as goal

pub lanes-preserved : goal.lanes-preserved
lanes-preserved c = (
  span_step (content c.args.self.now.size c.args.self.now.words.items) c.args.wide c.args.start c.lanes.o (c.args.from + c.args.n)
      c.lane_at.result c.lanes.out c.push.new.self (c.args.out.now ++ span (content c.args.self.now.size c.args.self.now.words.items)
      c.args.wide c.args.start c.args.from c.args.n) (omega arith) c.lanes.invariant.0 (search rules) c.lane_at.ensures,
  omega arith,
)
