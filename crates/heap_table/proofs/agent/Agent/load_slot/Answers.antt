use Rattle.std.proofs.Common.{◌≢◌, ◌<◌, ◌-◌, ◌^◌, ℕ, subst, sym, arith}
use Rattle.heap_rule.specs.declared.size.HeapSize.{HeapSize}
use Rattle.heap_table.proofs.agent.Agent.load_slot.Goals as goal

pub overflow_cast-result : goal.overflow_cast-result
overflow_cast-result c = let v = c.args.self.now.seat.me.0 in let h = c.args.heap.now in let n : ℕ = c.look_at_slot-word.result in let some : n ≢ 0 = c.if-word-eq0.false in
    let within : n - 1 < v.sizes.ids = c.look_at_slot-word.ensures.found.within (n - 1) (omega arith) in
    let small : v.sizes.ids < 2 ^ 29 = subst (λ (z : HeapSize). z.ids < 2 ^ 29) (sym c.requires.belongs.1) h.lawful.1 in omega arith
