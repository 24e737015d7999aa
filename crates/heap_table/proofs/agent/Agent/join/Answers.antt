use Rattle.std.proofs.Common.{◌<◌, ◌≤◌, ◌+◌, ◌≡◌, ◌∙◌, ℕ, subst, sym, ap, ap₂, arith}
use Rattle.heap_rule.specs.declared.view.View.{View}
use Rattle.heap_rule.specs.declared.size.Counter.TheVariants.{Ids}
use Rattle.heap_table.specs.Plays.{AgentSeat}
use Rattle.heap_table.proofs.Agreeing.{taken_over}
use Rattle.heap_table.proofs.Keeps.{counter_small, joins, looks}
use Rattle.heap_table.proofs.agent.Agent.join.Goals as goal

pub join_seat-requires : goal.join_seat-requires
join_seat-requires c = let a = c.requires.belongs.0 in let b = c.requires.belongs.1 in let h = c.args.heap.now in let me = c.args.self.now.seat in let other = c.args.other.seat in (
  a.0,
  b.0,
  b.3,
  subst (λ (n : ℕ). 0 < n) (sym h.counted) (counter_small h.size Ids),
  joins h.table.shared.key me.id other.id me.me.0 other.me.0 a.2 b.2,
)

pub load-requires : goal.load-requires
load-requires c = let a = c.requires.belongs.0 in let h = c.args.heap.now in let e = c.join_seat.ensures in let seat = c.join_seat.new.seat in (
  e.0 ∙ a.0,
  subst (λ (n : ℕ). 0 < n) (sym h.counted) (counter_small h.size Ids),
  looks h.table.shared.key h.table.shared.table_id.slots seat.id seat.me (ap (λ (q : AgentSeat). q.0.live) e.2 ∙ a.2) h.few,
)

pub overflow_add-self : goal.overflow_add-self
overflow_add-self c = let a = c.requires.belongs.0 in let b = c.requires.belongs.1 in let v : View = c.args.self.now.seat.me.0 in let o : View = c.args.other.seat.me.0 in
    let w : View = c.load.new.seat.me.0 in let e = c.load.ensures.2 in
    let t = taken_over c.args.self.now.seat.me.0 c.args.other.seat.me.0 c.load.new.seat.me.0
    (e.1 ∙ ap (λ (q : AgentSeat). q.0) c.join_seat.ensures.2) e.0.possible in
    let share : w.share ≡ v.share + o.share = ap (λ (x : View). x.share) t.0 in let same : w.share ≡ c.join_seat.new.seat.me.0.share = ap (λ (x : View). x.share) e.1 in
    let few : c.join_seat.new.seat.me.0.share ≤ 64 = e.2 in let p : v.share ≡ c.args.self.now.share = a.4 in let q : o.share ≡ c.args.other.share = b.4 in omega arith

pub returns-clause-view : goal.returns-clause-view
returns-clause-view c = let e = c.load.ensures.2 in (taken_over c.args.self.now.seat.me.0 c.args.other.seat.me.0 c.load.new.seat.me.0
    (e.1 ∙ ap (λ (q : AgentSeat). q.0) c.join_seat.ensures.2) e.0.possible).0

pub returns-clause-known : goal.returns-clause-known
returns-clause-known c = let e = c.load.ensures.2 in (taken_over c.args.self.now.seat.me.0 c.args.other.seat.me.0 c.load.new.seat.me.0
    (e.1 ∙ ap (λ (q : AgentSeat). q.0) c.join_seat.ensures.2) e.0.possible).1.0

pub returns-clause-known_of_other : goal.returns-clause-known_of_other
returns-clause-known_of_other c =
    let e = c.load.ensures.2 in (taken_over c.args.self.now.seat.me.0 c.args.other.seat.me.0 c.load.new.seat.me.0
    (e.1 ∙ ap (λ (q : AgentSeat). q.0) c.join_seat.ensures.2) e.0.possible).1.1

pub returns-clause-all : goal.returns-clause-all
returns-clause-all c = let e = c.load.ensures.2 in (taken_over c.args.self.now.seat.me.0 c.args.other.seat.me.0 c.load.new.seat.me.0
    (e.1 ∙ ap (λ (q : AgentSeat). q.0) c.join_seat.ensures.2) e.0.possible).2.0

pub returns-clause-all_of_other : goal.returns-clause-all_of_other
returns-clause-all_of_other c =
    let e = c.load.ensures.2 in (taken_over c.args.self.now.seat.me.0 c.args.other.seat.me.0 c.load.new.seat.me.0
    (e.1 ∙ ap (λ (q : AgentSeat). q.0) c.join_seat.ensures.2) e.0.possible).2.1

pub returns-clause-belongs : goal.returns-clause-belongs
returns-clause-belongs c = let a = c.requires.belongs.0 in let b = c.requires.belongs.1 in let j = c.join_seat.ensures in
    let e = c.load.ensures.2 in let t = taken_over c.args.self.now.seat.me.0 c.args.other.seat.me.0 c.load.new.seat.me.0 (e.1 ∙ ap (λ (q : AgentSeat). q.0) c.join_seat.ensures.2) e.0.possible in (
      c.load.ensures.0 ∙ (j.0 ∙ a.0),
      ap (λ (x : View). x.sizes) t.0 ∙ a.1,
      ap (λ (x : View). x.live) t.0 ∙ a.2,
      e.0.slots ∙ (ap (λ (q : AgentSeat). q.1) j.2 ∙ a.3),
      ap (λ (x : View). x.share) t.0 ∙ ap₂ ◌+◌ a.4 b.4,
      e.0.possible,
    )
