use Rattle.std.proofs.Common.{Option, refl, subst, sym}
use Rattle.heap_table.specs.Agents.{view_of}
use Rattle.heap_read.specs.Reads.{HoldsForms}
use Rattle.heap_text.specs.Texts.{KeepsOwn}
use Rattle.heap_reserve.specs.Claims.{IsClaimAnswer}
use Rattle.heap_agents.specs.Shared.{SharedText, size_if, view_if}
use Rattle.heap_agents.proofs.Marks.{spends_on, told}
use Rattle.agent_makes.proofs.spending.reserve.Goals as goal

pub returns-clause-claims : goal.returns-clause-claims
returns-clause-claims c = let x = c.args.agent.now in let t = c.in-Some.text in let call = c.claim in let u = call.new.text in let e = call.ensures in record {
  spends = spends_on x t u c.in-Some.is c.requires.held e.kept e.continues call.new.self e.reserve;
  own = told x t u c.in-Some.is KeepsOwn e.own;
  marked = (refl, refl);
  claims = subst (λ (o : Option SharedText). IsClaimAnswer (view_if o) (view_of u.reader.agent) (size_if o) x.reserve call.new.self c.args.ids c.args.words call.result) (sym c.in-Some.is) e.answer;
}

pub returns-clause-forms : goal.returns-clause-forms
returns-clause-forms c = told c.args.agent.now c.in-Some.text c.claim.new.text c.in-Some.is HoldsForms c.claim.ensures.forms
