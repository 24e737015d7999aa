use Rattle.std.specs.Prelude.{Option}
use Rattle.std.proofs.Common.{subst}
use Rattle.heap_rule.specs.Maps.{Has}
use Rattle.heap_agents.specs.declared.held.Held.{Held}
use Rattle.heap_agents.specs.Ready.{handle_view}
use Rattle.c_reads.proofs.search.begins_at.Goals as goal

pub returns-clause-stands : goal.returns-clause-stands
returns-clause-stands c us vs h k = let taken = c.held.ensures.value in c.starts_with.ensures.stands us vs
    (subst (λ (o : Option Held). Has (handle_view o).units c.args.hay us) taken h) (subst (λ (o : Option Held). Has (handle_view o).units c.args.needle vs) taken k)
