use Rattle.std.proofs.Common.{Bor, ◌∙◌, ap, subst, sym}
use Rattle.heap_table.specs.declared.heap.Heap.{Heap}
use Rattle.heap_table.specs.Agents.{Belongs}
use Rattle.test_strings.proofs.Turning.{goes_of, may_join}
use Rattle.test_strings.proofs.on_text.OnText.wrong_at_once.Goals as goal

pub join-requires-clause-belongs : goal.join-requires-clause-belongs
join-requires-clause-belongs g c = let t = c.both_at_once-left.ensures in let l = goes_of _ _ t.left in let r = goes_of _ _ t.right in
    subst (λ (h : Heap). Belongs c.both_at_once-left.new.right.text.reader.agent h)
    (ap (λ (b : Bor Heap). b.now) r.heap ∙ (c.split-other.ensures.other_heap ∙ sym (ap (λ (b : Bor Heap). b.now) (l.heap ∙ c.split-other.ensures.heap))))
    c.both_at_once-left.new.right.text.reader.belongs

pub join-requires-clause-may : goal.join-requires-clause-may
join-requires-clause-may g c = let t = c.both_at_once-left.ensures in let l = goes_of _ _ t.left in let r = goes_of _ _ t.right in
    may_join c.args.self.now.text.reader.agent.seat.me.0 _ _ _ _ 1 c.split-other.ensures.left c.split-other.ensures.right l.view r.view c.args.self.now.text.reader.belongs.2
