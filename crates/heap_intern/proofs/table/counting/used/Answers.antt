use Rattle.std.proofs.Common.{◌+◌, ℕ, subst, sym}
use Rattle.heap_rule.specs.declared.view.View.{View}
use Rattle.heap_intern.specs.Visits.{Counted}
use Rattle.heap_intern.proofs.SlotLoads.{counted_next, found_some}
use Rattle.heap_intern.proofs.table.counting.used.Goals as goal

pub returns-in-Some-clause-counts : goal.returns-in-Some-clause-counts
returns-in-Some-clause-counts g c a count t = let v : View = c.args.reader.now.agent.seat.me.0 in let w : View = c.load_slot.new.self.seat.me.0 in let i = c.in-Some.field-0 in
    subst (λ (n : ℕ). Counted a w (c.args.k + 1) (count + n)) (sym (found_some i))
    (counted_next a v c.args.k count t w (i + 1) c.in-Some.ensures.found c.requires.whole c.load_slot.ensures.known c.in-Some.ensures.view)

pub returns-in-None-clause-counts : goal.returns-in-None-clause-counts
returns-in-None-clause-counts g c a count t = let v : View = c.args.reader.now.agent.seat.me.0 in let w : View = c.load_slot.new.self.seat.me.0 in
    counted_next a v c.args.k count t w 0 c.in-None.ensures.found c.requires.whole c.load_slot.ensures.known c.in-None.ensures.view
