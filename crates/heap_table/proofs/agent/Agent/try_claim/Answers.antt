use Rattle.std.proofs.Common.{◌<◌, ◌+◌, ◌^◌, ℕ, subst, sym, ap, refl, arith}
use Rattle.heap_rule.specs.Layout.{counter_at, end_of}
use Rattle.heap_rule.specs.declared.size.HeapSize.{HeapSize}
use Rattle.heap_table.proofs.Keeps.{claims, counter_small, end_small, belongs_then}
use Rattle.heap_table.proofs.agent.Agent.try_claim.Goals as goal

pub compare_exchange-requires : goal.compare_exchange-requires
compare_exchange-requires c = let r = c.requires.belongs in let h = c.args.heap.now in rw (c.place.ensures, c.from-old.ensures, c.from.ensures) (
  r.0,
  subst (λ (n : ℕ). counter_at c.args.counter < n) (sym h.counted) (counter_small h.size c.args.counter),
  claims h.table.shared.key h.table.shared.table_id.slots c.args.self.now.seat.id c.args.self.now.seat.me r.2 c.args.counter c.args.at c.args.want c.requires.may,
)

pub returns-clause-found : goal.returns-clause-found
returns-clause-found c = (c.compare_exchange.ensures.2.1 c.args.counter c.args.want c.place.ensures (ap (λ (n : ℕ). c.from-old.result + n) c.from.ensures)).1

pub returns-clause-belongs : goal.returns-clause-belongs
returns-clause-belongs c = let e = c.compare_exchange.ensures in belongs_then c.args.heap.now c.args.self.now
    (record { seat = c.compare_exchange.new.seat; share = c.args.self.now.share }) c.requires.belongs refl e.0 e.2.0

pub overflow_cast-result : goal.overflow_cast-result
overflow_cast-result c = let f = (c.compare_exchange.ensures.2.1 c.args.counter c.args.want c.place.ensures (ap (λ (n : ℕ). c.from-old.result + n) c.from.ensures)).1 in let w = f.within in
    let e : end_of c.args.self.now.seat.me.0.sizes c.args.counter < 2 ^ 29 = subst (λ (z : HeapSize). end_of z c.args.counter < 2 ^ 29)
    (sym c.requires.belongs.1) (end_small c.args.heap.now.size c.args.counter c.args.heap.now.lawful) in omega arith
