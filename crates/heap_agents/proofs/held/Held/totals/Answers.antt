use Rattle.std.proofs.Common.{ap, refl}
use Rattle.std.specs.Arc.{arc_value}
use Rattle.heap_intern.proofs.Going.{counted_known}
use Rattle.heap_agents.proofs.Marks.{counted_own, held_counted}
use Rattle.heap_agents.proofs.held.Held.totals.Goals as goal

pub returns-clause-held : goal.returns-clause-held
returns-clause-held c = let e = c.totals.ensures in
    held_counted c.args.self.now c.in-Some.text c.totals.new.self c.in-Some.is (ap arc_value e.kept.heap) e.kept.limit _
    c.requires.held e.view (counted_known _ _ _) (λ us i h. h) refl (counted_own _ _ _)
