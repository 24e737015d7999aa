use Rattle.std.proofs.Common.{sym, ◌∙◌}
use Rattle.heap_core_views.proofs.Behind.{behind_next, behind_not}
use Rattle.heap_core_views.proofs.slots.is_behind.Goals as goal

pub returns-then-not-is_shut_at : goal.returns-then-not-is_shut_at
returns-then-not-is_shut_at c = behind_not c.args.view.now c.args.us.now c.hash.result c.hash.ensures c.args.slot c.loop-r.r
    c.requires.inside c.loop-r-test.true (sym c.is_shut_at.ensures ∙ c.if-not-is_shut_at.true)

pub loop-r-preserved : goal.loop-r-preserved
loop-r-preserved c = behind_next c.args.view.now c.args.us.now c.hash.result c.hash.ensures c.args.view.now.sizes.slots c.loop-r.r
    c.loop-r.invariant (sym c.is_shut_at.ensures ∙ c.if-not-is_shut_at.false)
