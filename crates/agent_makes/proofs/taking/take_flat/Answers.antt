use Rattle.std.proofs.Common.{Option, false, subst, sym}
use Rattle.js_header.specs.declared.form.Form.TheVariants.{Flat}
use Rattle.js_units.specs.Lanes.{is_wide}
use Rattle.heap_rule.specs.Views.{IsSeenSettled}
use Rattle.heap_agents.specs.Shared.{SharedText, view_if}
use Rattle.heap_agents.proofs.Marks.{spends_on}
use Rattle.agent_makes.proofs.taking.take_flat.Goals as goal

pub returns-clause-settled : goal.returns-clause-settled
returns-clause-settled c = let form = c.in_ok-s.ensures.form in
    subst (λ (t : Option SharedText). IsSeenSettled (view_if t) c.in_ok-s.s.id) (sym c.mark.ensures.text) (Flat (is_wide c.args.units.now) form.0 false, form.1, λ n. n)

pub returns-in_err-s-clause-spends : goal.returns-in_err-s-clause-spends
returns-in_err-s-clause-spends c = let call = c.make_flat-made in
    spends_on c.args.agent.now c.in-Some.text call.new.text c.in-Some.is c.requires.held call.ensures.kept call.ensures.continues call.new.self call.ensures.reserve

pub mark-requires-clause-held : goal.mark-requires-clause-held
mark-requires-clause-held c = let call = c.make_flat-made in
    (spends_on c.args.agent.now c.in-Some.text call.new.text c.in-Some.is c.requires.held call.ensures.kept call.ensures.continues call.new.self call.ensures.reserve).held
