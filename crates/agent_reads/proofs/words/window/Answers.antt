use Rattle.std.proofs.Common.{Option, subst}
use Rattle.heap_rule.specs.Maps.{Has}
use Rattle.heap_agents.specs.Shared.{SharedText, view_if}
use Rattle.heap_agents.proofs.Marks.{leaves_reads}
use Rattle.agent_reads.proofs.words.window.Goals as goal

pub returns-clause-shown : goal.returns-clause-shown
returns-clause-shown c us h = c.show_words.ensures.shown us (subst (λ (t : Option SharedText). Has (view_if t).units c.args.s.id us) c.in-Some.is h)

pub returns-clause-leaves : goal.returns-clause-leaves
returns-clause-leaves c = let call = c.show_words in leaves_reads c.args.agent.now c.in-Some.text call.new.text c.in-Some.is c.requires.held call.ensures.kept call.ensures.reads
