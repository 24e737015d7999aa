use Rattle.std.specs.Prelude.{Option}
use Rattle.std.proofs.Common.{ap, refl, subst, ◌≡◌, ◌∙◌, w32, to_z, of_z}
use Rattle.std.specs.declared.cmp.Ordering.{Ordering}
use Rattle.std.specs.declared.cmp.Ordering.TheVariants.{Less, Equal, Greater}
use Rattle.c_steps.specs.Reports.{order_number}
use Rattle.heap_rule.specs.Maps.{Has}
use Rattle.heap_agents.specs.declared.held.Held.{Held}
use Rattle.heap_agents.specs.Ready.{handle_view}
use Rattle.jsstr_c.proofs.comparing.order_of.Goals as goal

-- the number of an order is one of 32 bits
fits : (o : Ordering) → to_z w32 (of_z w32 (order_number o)) ≡ order_number o
fits Less = refl
fits Equal = refl
fits Greater = refl

pub returns-clause-means : goal.returns-clause-means
returns-clause-means c us vs h k = let taken = c.held.ensures.value in (
  c.compare-answer.result,
  ap (λ z. to_z w32 (of_z w32 z)) c.of_order.ensures ∙ fits c.compare-answer.result,
  c.compare-answer.ensures.means us vs
      (subst (λ (o : Option Held). Has (handle_view o).units c.args.a us) taken h) (subst (λ (o : Option Held). Has (handle_view o).units c.args.b vs) taken k),
)
