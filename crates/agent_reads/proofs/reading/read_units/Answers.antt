use Rattle.heap_read.proofs.Loaded.{reads_trans}
use Rattle.agent_reads.proofs.reading.read_units.Goals as goal

pub returns-clause-reads : goal.returns-clause-reads
returns-clause-reads g c = reads_trans _ _ _ c.window-window.ensures.reads c.read_in.ensures.reads
