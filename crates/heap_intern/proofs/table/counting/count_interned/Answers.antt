use Rattle.std.proofs.Common.{◌≡◌, ◌∙◌, ap, sym, arith}
use Rattle.heap_table.specs.Agents.{size_of}
use Rattle.std.specs.FinMap.{contains_key}
use Rattle.heap_rule.specs.declared.size.HeapSize.{HeapSize}
use Rattle.heap_rule.specs.declared.view.View.{View}
use Rattle.heap_intern.specs.Counting.{count_below}
use Rattle.heap_intern.proofs.SlotLoads.{counted_all}
use Rattle.heap_intern.proofs.table.counting.count_interned.Goals as goal

pub returns-clause-count : goal.returns-clause-count
returns-clause-count g c = let a : View = c.args.reader.now.agent.seat.me.0 in let v : View = c.loop-k.reader.agent.seat.me.0 in
    let i = c.loop-k.invariant in let e : c.loop-k.k ≡ c.size-n.result.slots = omega arith in
    counted_all a v c.loop-k.k c.loop-k.count c.loop-k.reader.belongs.5 (e ∙ ap (λ (z : HeapSize). z.slots) ((c.size-n.ensures ∙ ap size_of c.heap.ensures) ∙ sym c.args.reader.now.belongs.1)) i.1

pub returns-clause-used : goal.returns-clause-used
returns-clause-used g c = let v : View = c.loop-k.reader.agent.seat.me.0 in let i = c.loop-k.invariant in let e : c.loop-k.k ≡ c.size-n.result.slots = omega arith in
    i.1.number ∙ ap (count_below (λ k. contains_key v.slots k)) (e ∙ ap (λ (z : HeapSize). z.slots) (c.size-n.ensures ∙ ap size_of c.heap.ensures))
