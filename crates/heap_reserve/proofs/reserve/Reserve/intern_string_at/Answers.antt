use Rattle.heap_rule.specs.declared.view.View.{View}
use Rattle.heap_intern.specs.Headers.{header_plan}
use Rattle.heap_reserve.proofs.Interned.{answer_own}
use Rattle.heap_reserve.proofs.Kept.{reserve_kept}
use Rattle.heap_reserve.proofs.reserve.Reserve.intern_string_at.Goals as goal

pub returns-then-not-has-clause-reserve : goal.returns-then-not-has-clause-reserve
returns-then-not-has-clause-reserve g c = let v : View = c.args.text.now.reader.agent.seat.me.0 in let w : View = c.intern_string_at.new.reader.agent.seat.me.0 in let o = c.requires.opening in
    let plan = header_plan c.args.opening.sought o.0 in
    reserve_kept v w c.args.self.now (answer_own v w o.0 plan c.intern_string_at.result (c.intern_string_at.ensures.interns o.0 o.1)) c.requires.reserve
