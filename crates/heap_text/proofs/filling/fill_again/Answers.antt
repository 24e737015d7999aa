use Rattle.std.proofs.Common.{◌+◌, get_or}
use Rattle.heap_rule.specs.declared.view.View.{View}
use Rattle.heap_rule.specs.Contents.{lane_in}
use Rattle.heap_read.specs.Filling.{own_word}
use Rattle.heap_read.proofs.Placing.{filled_same}
use Rattle.heap_text.specs.Filling.{units_at}
use Rattle.heap_text.proofs.filling.fill_again.Goals as goal

pub returns-clause-filled : goal.returns-clause-filled
returns-clause-filled g c = let v : View = c.args.reader.now.agent.seat.me.0 in let x : View = c.repeat_lanes.new.self.agent.seat.me.0 in let to = c.args.to in
    filled_same to.wide to.start (own_word v.own_words) (own_word x.own_words) (c.args.at + c.args.n) c.args.n
    (λ k. lane_in (own_word v.own_words) to.wide to.start (c.args.at + k)) (λ k. get_or (units_at v c.args.id) k 0) c.repeat_lanes.ensures.filled c.requires.held
