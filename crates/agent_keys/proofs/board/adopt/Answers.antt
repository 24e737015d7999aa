use Rattle.std.proofs.Common.{Some, ap, refl}
use Rattle.std.specs.Arc.{arc_value}
use Rattle.heap_rule.specs.declared.view.View.{View}
use Rattle.heap_rule.proofs.MapLemmas.{key_of}
use Rattle.heap_table.specs.Agents.{view_of}
use Rattle.heap_agents.specs.Shared.{SharedText}
use Rattle.agent_keys.proofs.Boarded.{adopted_marked, adopted_none, held_adopted}
use Rattle.agent_keys.proofs.Interned.{entered_adopted}
use Rattle.agent_keys.proofs.board.adopt.Goals as goal

pub mark_interned-requires-clause-held : goal.mark_interned-requires-clause-held
mark_interned-requires-clause-held c = let t = c.in-Some.text in let call = c.adopt-found in
    held_adopted c.args.agent.now t _ c.in-Some.is (ap arc_value call.ensures.heap) refl c.requires.held c.args.slot call.result call.ensures.adopts

pub mark_interned-requires-clause-known : goal.mark_interned-requires-clause-known
mark_interned-requires-clause-known c = let v : View = view_of c.in-Some.text.reader.agent in let w : View = view_of c.adopt-found.new.reader.agent in
    let e = entered_adopted v w c.args.slot (Some c.in-Some-found.id) c.in-Some-found.ensures.adopts in key_of w.units c.in-Some-found.id e.0 e.1.units

pub mark_interned-requires-clause-call : goal.mark_interned-requires-clause-call
mark_interned-requires-clause-call c = let v : View = view_of c.in-Some.text.reader.agent in let w : View = view_of c.adopt-found.new.reader.agent in
    let e = entered_adopted v w c.args.slot (Some c.in-Some-found.id) c.in-Some-found.ensures.adopts in (e.0, e.1.call)

pub returns-in-Some-found : goal.returns-in-Some-found
returns-in-Some-found c = let x = c.args.agent.now in let t = c.in-Some.text in let call = c.adopt-found in let mark = c.mark_interned in
    let u : SharedText = record t { reader = call.new.reader; within = _ } in let a = c.in-Some-found.ensures in
    adopted_marked x t u c.in-Some.is (ap arc_value call.ensures.heap) refl c.requires.held c.args.slot c.in-Some-found.id mark.new.self
    mark.ensures.text mark.ensures.held mark.ensures.marks mark.ensures.marked a.adopts a.again a.loads

pub returns-in-None-found : goal.returns-in-None-found
returns-in-None-found c = let call = c.adopt-found in let a = c.in-None-found.ensures in
    adopted_none c.args.agent.now c.in-Some.text _ c.in-Some.is (ap arc_value call.ensures.heap) refl c.requires.held c.args.slot a.adopts a.again a.loads
