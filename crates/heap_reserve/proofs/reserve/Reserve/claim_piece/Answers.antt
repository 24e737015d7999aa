use Rattle.std.proofs.Common.{◌++◌, ◌≤◌, ◌∙◌, ℕ, List, ap, arith}
use Rattle.heap_rule.specs.declared.view.View.{View}
use Rattle.heap_reserve.specs.Trying.{ids_from}
use Rattle.heap_reserve.proofs.Kept.{claimed_ids, own_claimed_ids, reserve_pushed}
use Rattle.heap_reserve.proofs.reserve.Reserve.claim_piece.Goals as goal

pub returns-in-Ok-clause-own : goal.returns-in-Ok-clause-own
returns-in-Ok-clause-own g c = let v : View = c.args.reader.now.agent.seat.me.0 in
    own_claimed_ids v c.claim_ids.new.self.seat.me.0 c.in-Ok.first c.in-Ok.count c.in-Ok.ensures.view c.in-Ok.ensures.above_own

pub returns-in-Ok-clause-reserve : goal.returns-in-Ok-clause-reserve
returns-in-Ok-clause-reserve g c = let v : View = c.args.reader.now.agent.seat.me.0 in let first = c.in-Ok.first in let n = c.in-Ok.count in
    reserve_pushed v c.claim_ids.new.self.seat.me.0 c.args.self.now c.keep_all.new.self first n c.in-Ok.ensures.view c.in-Ok.ensures.above_own
    c.requires.reserve c.keep_all.ensures.ids c.keep_all.ensures.words.0 c.keep_all.ensures.words.1

pub returns-in-Ok-clause-ok : goal.returns-in-Ok-clause-ok
returns-in-Ok-clause-ok g c = let v : View = c.args.reader.now.agent.seat.me.0 in let first = c.in-Ok.first in let n = c.in-Ok.count in
    let most = c.in-Ok.ensures.count.1 in (
      c.in-Ok.ensures.count.0,
      most,
      claimed_ids v c.claim_ids.new.self.seat.me.0 c.args.self.now c.keep_all.new.self first n c.in-Ok.ensures.view
          c.keep_all.ensures.ids c.keep_all.ensures.words.0 c.keep_all.ensures.words.1,
    )
