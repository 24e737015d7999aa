use Rattle.std.proofs.Common.{◌∙◌, sym, ap, length}
use Rattle.std.proofs.lemmas.Bool.{eqb-true}
use Rattle.js_search.proofs.Lexical.{is_same}
use Rattle.heap_read.proofs.Loaded.{reads_trans}
use Rattle.heap_export.proofs.UnitByUnit.{told_equal, whole_order}
use Rattle.heap_export.proofs.comparing.has_same_units.Goals as goal

pub returns-then-len-size-clause-reads : goal.returns-then-len-size-clause-reads
returns-then-len-size-clause-reads g c = reads_trans _ _ _ c.len-size.ensures.reads (reads_trans _ _ _ c.len.ensures.reads c.compare_fronts.ensures.reads)

pub returns-then-len-size-clause-same : goal.returns-then-len-size-clause-same
returns-then-len-size-clause-same g c us vs h k = let a = c.len-size.ensures.reads.known.units in let b = c.len.ensures.reads.known.units in let front = c.compare_fronts in
    let e = c.len-size.ensures.length us h in let f = c.len.ensures.length vs (a c.args.b.id vs k) in
    let o = whole_order us vs c.len-size.result front.result (sym e) (sym f ∙ c.if-len-size.true)
    (front.ensures.order us vs (b c.args.a.id us (a c.args.a.id us h)) (b c.args.b.id vs (a c.args.b.id vs k))) in
    let t = is_same us vs front.result o in let q = told_equal front.result in
    (λ r. t.0 (q.0 (sym c.eq.ensures ∙ r)), λ r. c.eq.ensures ∙ q.1 (t.1 r))

pub returns-else-len-size-clause-same : goal.returns-else-len-size-clause-same
returns-else-len-size-clause-same g c us vs h k = let e = c.len-size.ensures.length us h in let f = c.len.ensures.length vs (c.len-size.ensures.reads.known.units c.args.b.id vs k) in
    (λ t. absurd (c.if-len-size.false (eqb-true c.len.result c.len-size.result t)), λ q. absurd (c.if-len-size.false (f ∙ sym (e ∙ ap length q))))
