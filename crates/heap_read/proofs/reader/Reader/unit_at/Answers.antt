use Rattle.std.proofs.Common.{◌∙◌}
use Rattle.heap_read.proofs.Loaded.{reads_trans}
use Rattle.heap_read.proofs.reader.Reader.unit_at.Goals as goal

pub returns-clause-reads : goal.returns-clause-reads
returns-clause-reads g c = record {
  heap = cc;
  view = reads_trans c.args.self.now.agent.seat.me.0 c.window-window.new.self.agent.seat.me.0
      c.unit_in.new.self.agent.seat.me.0 c.window-window.ensures.reads.view c.unit_in.ensures.reads.view;
}

pub returns-clause-few : goal.returns-clause-few
returns-clause-few g c = let h = c.window-window.ensures.few in record { times = h.times; few = h.few; loads = λ l j e. c.unit_in.ensures.forms.1 ∙ h.loads l j e }
