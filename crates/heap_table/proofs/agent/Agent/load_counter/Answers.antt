use Rattle.std.proofs.Common.{◌<◌, ◌^◌, ℕ, subst, sym, arith}
use Rattle.heap_rule.specs.Layout.{counter_at, end_of}
use Rattle.heap_rule.specs.declared.size.HeapSize.{HeapSize}
use Rattle.heap_table.proofs.Keeps.{loads, counter_small, end_small}
use Rattle.heap_table.proofs.agent.Agent.load_counter.Goals as goal

pub load-requires : goal.load-requires
load-requires c = let r = c.requires in let h = c.args.heap.now in rw c.place.ensures (
  r.0,
  subst (λ (n : ℕ). counter_at c.args.counter < n) (sym h.counted) (counter_small h.size c.args.counter),
  loads h.table.shared.key h.table.shared.table_id.slots c.args.self.now.seat.id c.args.self.now.seat.me r.2 c.args.counter,
)

pub overflow_cast-result : goal.overflow_cast-result
overflow_cast-result c = let f = (c.load.ensures.2.1 c.args.counter c.place.ensures).1 in let w = f.within in
    let e : end_of c.args.self.now.seat.me.0.sizes c.args.counter < 2 ^ 29 = subst (λ (z : HeapSize). end_of z c.args.counter < 2 ^ 29)
    (sym c.requires.1) (end_small c.args.heap.now.size c.args.counter c.args.heap.now.lawful) in omega arith
