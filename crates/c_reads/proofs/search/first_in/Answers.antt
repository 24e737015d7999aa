use Rattle.std.specs.Prelude.{Option}
use Rattle.std.proofs.Common.{subst}
use Rattle.heap_rule.specs.Maps.{Has}
use Rattle.heap_agents.specs.declared.held.Held.{Held}
use Rattle.heap_agents.specs.Ready.{handle_view}
use Rattle.c_reads.proofs.search.first_in.Goals as goal

pub returns-clause-least : goal.returns-clause-least
returns-clause-least c us vs h k = let taken = c.held.ensures.value in (
  c.index_of-answer.result,
  c.of_place.ensures.value,
  c.index_of-answer.ensures.least us vs
      (subst (λ (o : Option Held). Has (handle_view o).units c.args.hay us) taken h) (subst (λ (o : Option Held). Has (handle_view o).units c.args.needle vs) taken k),
)
