use Rattle.std.proofs.Common.{ℕ, ◌<◌, ◌≤◌, ◌+◌, List, Option, Some, ap, refl, subst, sym}
use Rattle.std.specs.Arc.{arc_value}
use Rattle.heap_rule.specs.declared.view.View.{View}
use Rattle.heap_rule.specs.Maps.{Has}
use Rattle.heap_table.specs.Agents.{view_of}
use Rattle.heap_intern.specs.Adopted.{LoadsNoneBehind}
use Rattle.heap_intern.specs.Goes.{LoadsAlone}
use Rattle.heap_intern.specs.SlotLoads.{loads_at}
use Rattle.heap_agents.specs.Shared.{SharedText, size_if}
use Rattle.heap_agents.proofs.Calls.{calls_looked, own_looked}
use Rattle.heap_agents.proofs.Marks.{held_on, kept_marks, same_text, told}
use Rattle.agent_keys.proofs.board.slot_of.Goals as goal

pub returns : goal.returns
returns c = let x = c.args.agent.now in let t = c.in-Some.text in let call = c.slot_of in let e = call.ensures in
    let u : SharedText = record t { reader = call.new.reader; within = _ } in let i : ℕ = c.args.id in let k : ℕ = call.result in
    let v : View = view_of t.reader.agent in let w : View = view_of u.reader.agent in let heap = ap arc_value e.heap in record {
      held = held_on x t u c.in-Some.is heap refl c.requires.held e.looks.goes.known (calls_looked v w e.looks) e.looks.goes.agents (own_looked v w e.looks);
      same = same_text x t u c.in-Some.is heap refl;
      marks = kept_marks x (Some u);
      marked = (refl, refl);
      looks = told x t u c.in-Some.is LoadsAlone e.looks;
      inside = subst (λ (o : Option SharedText). k < (size_if o).slots) (sym c.in-Some.is) e.inside;
      stands = e.stands;
      once = told x t u c.in-Some.is (λ (a b : View). (j : ℕ) → loads_at b j ≤ loads_at a j + 1) e.once;
      few = told x t u c.in-Some.is (λ (a b : View). (us : List ℕ) → Has a.units i us → LoadsNoneBehind a b us k) e.few;
    }
