use Rattle.std.proofs.Common.{◌∙◌}
use Rattle.heap_rule.specs.declared.view.View.{View}
use Rattle.heap_bytes.specs.Spellings.{spelling_units}
use Rattle.heap_read.proofs.Loaded.{reads_trans}
use Rattle.heap_intern.proofs.Going.{looks_reads}
use Rattle.heap_intern.proofs.Seeking.{fixed_later, same_or_differs}
use Rattle.heap_intern.proofs.table.wanted.has_spelled.Goals as goal

pub returns-clause-looks : goal.returns-clause-looks
returns-clause-looks g c = let v : View = c.args.reader.now.agent.seat.me.0 in
    let u : View = c.fixed_window-other.new.self.agent.seat.me.0 in let w : View = c.shows_spelled.new.reader.agent.seat.me.0 in
    looks_reads v w (reads_trans v u w c.fixed_window-other.ensures.reads.view c.shows_spelled.ensures.reads.view)

pub returns-clause-same : goal.returns-clause-same
returns-clause-same g c = let u : View = c.fixed_window-other.new.self.agent.seat.me.0 in let w : View = c.shows_spelled.new.reader.agent.seat.me.0 in let e = c.fixed_window-other.ensures in
    same_or_differs w c.args.id c.fixed_window-other.result (spelling_units c.args.source.now)
    (fixed_later u w c.shows_spelled.ensures.reads.view.known c.args.id c.fixed_window-other.result e.fixed)
    c.shows_spelled.new.reader.belongs.5 c.shows_spelled.ensures.learned
    c.shows_spelled.result (c.if-other-n.false ∙ c.len-n.ensures) c.shows_spelled.ensures.same
