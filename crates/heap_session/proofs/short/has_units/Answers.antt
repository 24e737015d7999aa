use Rattle.heap_rule.specs.declared.view.View.{View}
use Rattle.heap_rule.proofs.MapLemmas.{has_key}
use Rattle.heap_read.proofs.Loaded.{reads_trans}
use Rattle.heap_session.proofs.short.has_units.Goals as goal

pub shows-requires-clause-window : goal.shows-requires-clause-window
shows-requires-clause-window g c = let v : View = c.args.text.now.reader.agent.seat.me.0 in let u = has_key v.units c.args.s.id c.requires.known in
    (u.0, (c.window-window.ensures.shows u.0 u.1).0)

pub returns-clause-reads : goal.returns-clause-reads
returns-clause-reads g c = reads_trans c.args.text.now.reader.agent.seat.me.0 c.window-window.new.self.reader.agent.seat.me.0
    c.shows.new.text.reader.agent.seat.me.0 c.window-window.ensures.reads c.shows.ensures.reads

pub returns-clause-has : goal.returns-clause-has
returns-clause-has g c us h = let shown = c.window-window.ensures.shows us h in c.shows.ensures.shows us shown.0 shown.1
