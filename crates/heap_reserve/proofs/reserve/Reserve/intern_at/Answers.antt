use Rattle.std.proofs.Common.{ℕ, List}
use Rattle.heap_rule.specs.declared.view.View.{View}
use Rattle.heap_intern.specs.Answers.{copy_plan}
use Rattle.heap_intern.specs.Keys.{units_of_key}
use Rattle.heap_reserve.proofs.Interned.{answer_own}
use Rattle.heap_reserve.proofs.Kept.{reserve_kept}
use Rattle.heap_reserve.proofs.reserve.Reserve.intern_at.Goals as goal

pub returns-then-not-covers-clause-reserve : goal.returns-then-not-covers-clause-reserve
returns-then-not-covers-clause-reserve g c = let v : View = c.args.text.now.reader.agent.seat.me.0 in let w : View = c.intern_key_at.new.reader.agent.seat.me.0 in
    let us : List ℕ = units_of_key c.args.key.now in reserve_kept v w c.args.self.now (answer_own v w us (copy_plan us) c.intern_key_at.result c.intern_key_at.ensures.interns) c.requires.reserve
