use Rattle.std.proofs.Common.{◌≡◌, ◌∙◌, ap, ap₂, length, min, arith}
use Rattle.std.specs.Ordering.{nat_cmp, ordering_then}
use Rattle.js_search.proofs.Lexical.{by_front}
use Rattle.heap_read.proofs.Loaded.{reads_trans}
use Rattle.heap_export.proofs.comparing.compare_strings.Goals as goal

pub returns-clause-reads : goal.returns-clause-reads
returns-clause-reads g c = reads_trans _ _ _ c.len-left.ensures.reads (reads_trans _ _ _ c.len-right.ensures.reads c.compare_fronts-front.ensures.reads)

pub returns-clause-order : goal.returns-clause-order
returns-clause-order g c us vs h k = let e = c.len-left.ensures.length us h in let k' = c.len-left.ensures.reads.known.units c.args.b.id vs k in let f = c.len-right.ensures.length vs k' in
    let h'' = c.len-right.ensures.reads.known.units c.args.a.id us (c.len-left.ensures.reads.known.units c.args.a.id us h) in let k'' = c.len-right.ensures.reads.known.units c.args.b.id vs k' in
    let front = c.compare_fronts-front in
    let n : c.min.result ≡ min (length us) (length vs) = omega (arith, c.min.ensures, e, f) in
    c.then.ensures ∙ (ap (ordering_then front.result) (c.cmp.ensures ∙ ap₂ nat_cmp e f) ∙ by_front us vs c.min.result front.result n (front.ensures.order us vs h'' k''))
