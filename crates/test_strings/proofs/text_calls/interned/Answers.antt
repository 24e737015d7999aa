use Rattle.std.proofs.Common.{◌∙◌}
use Rattle.heap_rule.specs.declared.view.View.{View}
use Rattle.heap_rule.proofs.MapLemmas.{has_key}
use Rattle.test_strings.proofs.Turning.{turns_continues, turns_interns, turns_trans}
use Rattle.test_strings.proofs.text_calls.interned.Goals as goal

pub returns-clause-goes : goal.returns-clause-goes
returns-clause-goes c = let v : View = c.args.text.now.reader.agent.seat.me.0 in let u : View = c.settle.new.self.reader.agent.seat.me.0 in
    let w : View = c.intern.new.reader.agent.seat.me.0 in let p = has_key v.units c.args.s.id c.requires.known in
    let i = c.intern.ensures.interns.answer p.0 (c.settle.ensures.continues.known.units c.args.s.id p.0 p.1) in
    record { heap = c.intern.ensures.heap ∙ c.settle.ensures.kept.heap; view = turns_trans v u w (turns_continues v u c.settle.ensures.continues) (turns_interns u w p.0 i.0 c.intern.result i.2) }
