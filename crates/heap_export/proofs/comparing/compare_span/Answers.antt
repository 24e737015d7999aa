use Rattle.std.proofs.Common.{◌+◌, ◌∙◌, ℕ, List, ap, sym, length, drop, arith}
use Rattle.std.specs.Ordering.{ordering_then}
use Rattle.std.specs.Prelude.{slice_range}
use Rattle.js_search.specs.Order.{units_cmp}
use Rattle.js_search.proofs.Lexical.{run_then}
use Rattle.heap_table.specs.Agents.{view_of}
use Rattle.heap_export.proofs.Windows.{window_len}
use Rattle.heap_export.proofs.comparing.compare_span.Goals as goal

pub returns-clause-order : goal.returns-clause-order
returns-clause-order g c us h = let n = length c.args.room.now in let d = c.args.from in let units = c.args.units.now in
    let long = window_len (view_of c.args.text.now.reader.agent) c.args.w us h in let left = c.requires.left_long in
    let shown = c.read_in.ensures.units us h in
    run_then us units d n (omega arith) c.requires.right_long
    ∙ ap (λ o. ordering_then o (units_cmp (drop (d + n) us) (drop (d + n) units))) (ap (λ (xs : List ℕ). units_cmp xs (slice_range units d (d + n))) (sym shown) ∙ sym c.cmp.ensures)
