use Rattle.heap_rule.specs.declared.view.View.{View}
use Rattle.heap_reserve.proofs.Kept.{id_taken, reserve_taken}
use Rattle.heap_reserve.proofs.reserve.Reserve.link.Goals as goal

pub returns-clause-reserve : goal.returns-clause-reserve
returns-clause-reserve g c = let v : View = c.args.reader.now.agent.seat.me.0 in let z : View = c.link_to.new.reader.agent.seat.me.0 in
    let r = c.args.self.now in let s = c.take_id-id.new.self in let id = c.take_id-id.result in let e = c.take_id-id.ensures in
    reserve_taken v z r s id 0 c.requires.reserve (id_taken v z r s id c.link_to.ensures.used c.link_to.ensures.own e.ids e.words)
