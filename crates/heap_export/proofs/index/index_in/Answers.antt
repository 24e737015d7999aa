use Rattle.std.proofs.Common.{arith}
use Rattle.heap_table.specs.Agents.{view_of}
use Rattle.heap_export.proofs.Decimals.{long_is_none}
use Rattle.heap_export.proofs.Windows.{window_len}
use Rattle.heap_export.proofs.index.index_in.Goals as goal

pub returns-then-count-gt-MOST_DIGITS-clause-index : goal.returns-then-count-gt-MOST_DIGITS-clause-index
returns-then-count-gt-MOST_DIGITS-clause-index g c us h = let t = c.if-count-gt-MOST_DIGITS.true in long_is_none us (omega (arith, t, window_len (view_of c.args.text.now.reader.agent) c.args.w us h))
