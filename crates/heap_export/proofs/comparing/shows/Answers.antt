use Rattle.std.proofs.Common.{◌∙◌, sym}
use Rattle.heap_table.specs.Agents.{view_of}
use Rattle.js_search.proofs.Lexical.{is_same}
use Rattle.heap_export.proofs.UnitByUnit.{told_equal, whole_order}
use Rattle.heap_export.proofs.Windows.{window_len}
use Rattle.heap_export.proofs.comparing.shows.Goals as goal

pub returns-clause-same : goal.returns-clause-same
returns-clause-same g c us h = let units = c.args.units.now in let front = c.compare_front in
    let n = window_len (view_of c.args.text.now.reader.agent) c.args.w us h in
    let o = whole_order us units c.args.w.len front.result n (sym c.requires.long) (front.ensures.order us h) in
    let t = is_same us units front.result o in let q = told_equal front.result in
    (λ r. t.0 (q.0 (sym c.eq.ensures ∙ r)), λ r. c.eq.ensures ∙ q.1 (t.1 r))
