use Rattle.std.proofs.Common.{◌≡◌, ◌≤◌, ◌<◌, ◌-◌, ◌∙◌, ℕ, subst, sym, ap, arith}
use Rattle.heap_rule.specs.declared.view.View.{View}
use Rattle.heap_rule.specs.declared.size.Counter.TheVariants.{Ids}
use Rattle.heap_rule.specs.Sound.{IsPossible}
use Rattle.heap_rule.proofs.Splitting.{possible_split}
use Rattle.heap_table.specs.Plays.{AgentSeat}
use Rattle.heap_table.proofs.Keeps.{splits, counter_small}
use Rattle.heap_table.proofs.agent.Agent.split.Goals as goal

pub split_seat-seat-requires : goal.split_seat-seat-requires
split_seat-seat-requires c = let b = c.note.ensures.belongs in let h = c.args.heap.now in let v : View = c.note.new.self.seat.me.0 in
    let giving : v.giving ≡ c.args.give = ap (λ (x : View). x.giving) c.note.ensures.view in let share : v.share ≡ c.args.self.now.share = b.4 ∙ c.note.ensures.share in
    let some_give : 1 ≤ c.args.give = c.requires.some in let less : c.args.give < c.args.self.now.share = c.requires.less in (
      b.0,
      subst (λ (n : ℕ). 0 < n) (sym h.counted) (counter_small h.size Ids),
      splits h.table.shared.key c.note.new.self.seat.id v b.2 (omega arith) (omega arith),
    )

pub returns-clause-belongs : goal.returns-clause-belongs
returns-clause-belongs c = let b = c.note.ensures.belongs in let v : View = c.note.new.self.seat.me.0 in let e = c.split_seat-seat.ensures in
    let giving : v.giving ≡ c.args.give = ap (λ (x : View). x.giving) c.note.ensures.view in let share : v.share ≡ c.args.self.now.share = b.4 ∙ c.note.ensures.share in
    let some_give : 1 ≤ c.args.give = c.requires.some in let less : c.args.give < c.args.self.now.share = c.requires.less in
    let possible = possible_split v v.giving (omega arith) (omega arith) b.5 in (
      (
        e.0 ∙ b.0,
        ap (λ (q : AgentSeat). q.0.sizes) e.2 ∙ b.1,
        ap (λ (q : AgentSeat). q.0.live) e.2 ∙ b.2,
        ap (λ (q : AgentSeat). q.1) e.2 ∙ b.3,
        ap (λ (q : AgentSeat). q.0.share) e.2 ∙ (λ i. b.4 i - giving i),
        subst (λ (q : AgentSeat). IsPossible q.0) (sym e.2) possible.0,
      ),
      (
        e.3 ∙ b.0,
        ap (λ (q : AgentSeat). q.0.sizes) e.4 ∙ b.1,
        ap (λ (q : AgentSeat). q.0.live) e.4 ∙ b.2,
        ap (λ (q : AgentSeat). q.1) e.4,
        ap (λ (q : AgentSeat). q.0.share) e.4 ∙ giving,
        subst (λ (q : AgentSeat). IsPossible q.0) (sym e.4) possible.1,
      ),
    )
