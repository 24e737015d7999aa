use Rattle.std.proofs.Common.{ℕ, Option, subst, sym, ap, ◌≡◌}
use Rattle.heap_rule.specs.Maps.{Has}
use Rattle.heap_agents.specs.declared.held.Held.{Held}
use Rattle.agent_reads.specs.declared.words.Shown.{Shown}
use Rattle.heap_agents.specs.Held.{view_by}
use Rattle.heap_agents.specs.Ready.{handle_view}
use Rattle.agent_reads.specs.Words.{AreShown, AreThere}
use Rattle.c_steps.specs.Reports.{shown_by}
use Rattle.c_reads.proofs.reading.jsstr_window_unchecked.Goals as goal

pub returns-clause-shown : goal.returns-clause-shown
returns-clause-shown c us h =
    let s : ℕ = c.args.s in
    let call = c.window-shown in
    let has = subst (λ (o : Option Held). Has (handle_view o).units s us) c.held.ensures.value h in
    let is : shown_by c.of_words.result ≡ call.result = ap shown_by c.of_words.ensures in
    subst (λ (r : Shown). AreShown us c.args.at c.args.out.now call.new.into r) (sym is)
    (call.ensures.shown us has)

pub returns-clause-there : goal.returns-clause-there
returns-clause-there c us h =
    let s : ℕ = c.args.s in
    let call = c.window-shown in
    let has = subst (λ (o : Option Held). Has (handle_view o).units s us) c.held.ensures.value h in
    let is : shown_by c.of_words.result ≡ call.result = ap shown_by c.of_words.ensures in
    subst (λ (r : Shown). AreThere (view_by call.new.agent) us r) (sym is) (call.ensures.there us has)
