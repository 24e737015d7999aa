use Rattle.heap_bytes.proofs.AsciiRuns.{take_ascii}
use Rattle.heap_bytes.proofs.decoding.ascii_run.Goals as goal

pub returns-after-loop-run-clause-ascii : goal.returns-after-loop-run-clause-ascii
returns-after-loop-run-clause-ascii c = take_ascii c.loop-run.run c.args.bytes.now c.loop-run.invariant.ascii

pub returns-else-bytes-run-lt128-clause-ascii : goal.returns-else-bytes-run-lt128-clause-ascii
returns-else-bytes-run-lt128-clause-ascii c = take_ascii c.loop-run.run c.args.bytes.now c.loop-run.invariant.ascii
