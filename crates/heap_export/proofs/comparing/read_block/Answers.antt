use Rattle.std.proofs.Common.{arith}
use Rattle.heap_rule.proofs.MapLemmas.{has_key}
use Rattle.heap_table.specs.Agents.{view_of}
use Rattle.heap_read.proofs.Loaded.{reads_trans}
use Rattle.heap_export.proofs.comparing.read_block.Goals as goal

pub read_in-requires-clause-window : goal.read_in-requires-clause-window
read_in-requires-clause-window g c = let u = has_key (view_of c.args.text.now.reader.agent).units c.args.s.id c.requires.known in (u.0, (c.window-window.ensures.shows u.0 u.1).0)

pub read_in-requires-clause-within : goal.read_in-requires-clause-within
read_in-requires-clause-within g c = let u = has_key (view_of c.args.text.now.reader.agent).units c.args.s.id c.requires.known in
    let e = (c.window-window.ensures.shows u.0 u.1).1 in let l = c.requires.long u.0 u.1 in omega arith

pub returns-clause-reads : goal.returns-clause-reads
returns-clause-reads g c = reads_trans _ _ _ c.window-window.ensures.reads c.read_in.ensures.reads

pub returns-clause-units : goal.returns-clause-units
returns-clause-units g c us h = c.read_in.ensures.units us (c.window-window.ensures.shows us h).0
