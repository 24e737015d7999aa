use Rattle.std.proofs.Common.{Option, Some, subst, sym}
use Rattle.heap_rule.specs.Maps.{Has}
use Rattle.heap_agents.specs.declared.held.Held.{Held}
use Rattle.heap_agents.specs.Ready.{handle_view}
use Rattle.c_steps.proofs.Texts.{builds, looks_same, no_box}
use Rattle.c_bulk.proofs.building.add_settled.Goals as goal

pub returns-in-Ok-clause-builds : goal.returns-in-Ok-clause-builds
returns-in-Ok-clause-builds c = λ us h. let added = c.add_to-answer in let box = c.deref_mut in
    let k = subst (λ (o : Option Held). Has (handle_view o).units c.args.s us) c.held-held.ensures.value h in
    builds c.args.text.now.at.value c.put.new.self.at.value c.in-Ok.opened.value box.result.now added.new.out c.in-Ok.ensures.opened
    box.ensures.value c.put.ensures.there added.ensures.room us added.result c.status_of.result (added.ensures.added us k) c.status_of.ensures.status

pub returns-in-Err-clause-looks : goal.returns-in-Err-clause-looks
returns-in-Err-clause-looks c = looks_same c.args.agent.now.at.value (Some c.held-held.result.now) c.requires.ready (sym c.held-held.ensures.value)

pub returns-in-Err-clause-builds : goal.returns-in-Err-clause-builds
returns-in-Err-clause-builds c = λ us h. no_box c.args.text.now.at.value c.open.new.self.at.value c.in-Err.ensures.none c.in-Err.ensures.unchanged us
