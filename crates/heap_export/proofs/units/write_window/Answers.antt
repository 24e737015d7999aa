use Rattle.std.proofs.Common.{◌++◌, ap, refl, sym, ℕ, List, drop}
use Rattle.heap_table.specs.Agents.{view_of}
use Rattle.heap_export.proofs.Windows.{window_len}
use Rattle.heap_export.proofs.units.write_window.Goals as goal

pub returns-clause-written : goal.returns-clause-written
returns-clause-written g c us h = (
  refl,
  sym (window_len (view_of c.args.text.now.reader.agent) c.args.w us h),
  c.if-count-out.false,
  ap (λ (xs : List ℕ). xs ++ drop c.args.w.len c.args.out.now) (c.fill_units.ensures.units us h),
)
