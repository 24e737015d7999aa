use Rattle.heap_rule.proofs.MapLemmas.{has_key}
use Rattle.heap_read.proofs.Showing.{window_frozen}
use Rattle.heap_read.proofs.reader.Reader.window.Goals as goal

pub returns-clause-frozen : goal.returns-clause-frozen
returns-clause-frozen g c = let g = has_key c.args.self.now.agent.seat.me.0.units c.args.s.id c.requires.known in window_frozen
    c.window_on.new.self.agent.seat.me.0 c.window_on.result g.0 (c.window_on.ensures.shows g.0 g.1).0
