use Rattle.std.proofs.Common.{sym}
use Rattle.heap_read.proofs.Narrowness.{narrow_window}
use Rattle.heap_read.proofs.reader.Reader.is_wide_in.Goals as goal

pub returns-else-w-clause-wide : goal.returns-else-w-clause-wide
returns-else-w-clause-wide g c us window = sym (narrow_window c.args.self.now.agent.seat.me.0 c.args.w us c.args.self.now.belongs.5 c.if-w.false window)
