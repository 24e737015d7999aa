use Rattle.std.proofs.Common.{◌≡◌, ◌∙◌, ap, ℕ, length, min, arith}
use Rattle.std.specs.Ordering.{nat_cmp, ordering_then}
use Rattle.js_search.proofs.Lexical.{by_front}
use Rattle.heap_rule.proofs.MapLemmas.{has_key}
use Rattle.heap_table.specs.Agents.{view_of}
use Rattle.heap_read.proofs.Loaded.{reads_trans}
use Rattle.heap_export.proofs.Windows.{few_on}
use Rattle.heap_export.proofs.comparing.compare_units.Goals as goal

pub compare_front-front-requires-clause-window : goal.compare_front-front-requires-clause-window
compare_front-front-requires-clause-window g c = let u = has_key (view_of c.args.text.now.reader.agent).units c.args.s.id c.requires.known in (u.0, (c.window-window.ensures.shows u.0 u.1).0)

pub returns-clause-reads : goal.returns-clause-reads
returns-clause-reads g c = reads_trans _ _ _ c.window-window.ensures.reads c.compare_front-front.ensures.loads.reads

pub returns-clause-order : goal.returns-clause-order
returns-clause-order g c us h = let shown = c.window-window.ensures.shows us h in let units = c.args.units.now in let front = c.compare_front-front in
    let n : c.min-common.result ≡ min (length us) (length units) = omega (arith, c.min-common.ensures, shown.1) in
    c.then.ensures ∙ (ap (ordering_then front.result) (c.cmp.ensures ∙ ap (λ (k : ℕ). nat_cmp k (length units)) shown.1)
    ∙ by_front us units c.min-common.result front.result n (front.ensures.order us shown.0))

pub returns-clause-few : goal.returns-clause-few
returns-clause-few g c = few_on _ _ _ 3 c.window-window.ensures.few c.compare_front-front.ensures.loads.forms.1
