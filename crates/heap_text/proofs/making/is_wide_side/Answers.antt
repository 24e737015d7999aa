use Rattle.std.proofs.Common.{subst, sym}
use Rattle.js_header.specs.declared.form.Form.{Form}
use Rattle.heap_rule.specs.Maps.{Has}
use Rattle.heap_text.specs.Joins.{IsWideIn}
use Rattle.heap_read.specs.Sides.{KnowsSide}
use Rattle.heap_text.proofs.Linking.{own_wide}
use Rattle.heap_text.proofs.making.is_wide_side.Goals as goal

pub target_run-requires-clause-thin : goal.target_run-requires-clause-thin
target_run-requires-clause-thin g c = subst (λ (f : Form). Has c.args.reader.now.agent.seat.me.0.forms c.args.of f) c.in-Thin.is c.requires.seen

pub target_run-requires-clause-met : goal.target_run-requires-clause-met
target_run-requires-clause-met g c = subst (KnowsSide c.args.reader.now.agent.seat.me.0) c.in-Thin.is c.requires.side

pub returns-in-Thin-clause-wide : goal.returns-in-Thin-clause-wide
returns-in-Thin-clause-wide g c = subst (λ (f : Form). IsWideIn c.target_run.new.self.agent.seat.me.0 f c.target_run.result.wide)
    (sym c.in-Thin.is) (c.target_run.result.start, c.target_run.ensures.flat)

pub returns-in_default-clause-wide : goal.returns-in_default-clause-wide
returns-in_default-clause-wide g c = own_wide c.args.reader.now.agent.seat.me.0 c.args.form c.has_wide_bit.result c.has_wide_bit.ensures c.in_default.not-Thin
