use Rattle.std.proofs.Common.{◌+◌, ◌∙◌, ℕ, List, ap, length, sym, arith}
use Rattle.std.proofs.lemmas.List.{length-take-le}
use Rattle.std.specs.Prelude.{slice_range}
use Rattle.js_search.specs.Order.{units_cmp}
use Rattle.heap_table.specs.Agents.{view_of}
use Rattle.heap_export.proofs.PieceByPiece.{cut_block}
use Rattle.heap_export.proofs.Windows.{window_len}
use Rattle.heap_export.proofs.spelled.compare_piece.Goals as goal

pub returns-clause-order : goal.returns-clause-order
returns-clause-order g c us h = let v = view_of c.args.text.now.reader.agent in let n = window_len v c.args.w us h in let most = c.requires.short in let m = c.min-count.ensures in
    let size = length-take-le c.min-count.result _ (omega arith) in
    c.compare_shown.ensures.order us h ∙ ap (λ (xs : List ℕ). units_cmp xs c.args.units.now)
    (ap (λ (k : ℕ). slice_range us c.args.from (c.args.from + k)) size ∙ cut_block us c.args.from (length c.args.units.now) c.min-count.result c.args.w.len (sym n) m)
