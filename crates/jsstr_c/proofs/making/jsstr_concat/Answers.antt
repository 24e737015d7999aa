use Rattle.std.proofs.Common.{◌∙◌, Option, subst}
use Rattle.heap_agents.specs.declared.held.Held.{Held}
use Rattle.jsstr_c.specs.Made.{JoinsStrings}
use Rattle.jsstr_c.proofs.making.jsstr_concat.Goals as goal

pub returns-clause-joins : goal.returns-clause-joins
returns-clause-joins c = λ told. let made = c.jsstr_concat_unchecked in
    subst (λ (o : Option Held). JoinsStrings o made.new.agent.at.value c.args.a c.args.b made.result) (c.knows-else-not-knows.ensures.same ∙ c.knows.ensures.same) made.ensures.joins
