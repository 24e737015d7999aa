use Rattle.std.proofs.Common.{◌+◌, ◌∙◌, ℕ, ap, ap₂, sym, length, drop}
use Rattle.std.specs.Ordering.{ordering_then}
use Rattle.std.specs.Prelude.{slice_range}
use Rattle.js_search.specs.Order.{units_cmp}
use Rattle.js_search.proofs.Lexical.{run_then}
use Rattle.heap_read.proofs.Loaded.{reads_trans}
use Rattle.heap_export.proofs.comparing.compare_block.Goals as goal

pub returns-clause-reads : goal.returns-clause-reads
returns-clause-reads g c = reads_trans _ _ _ c.read_block.ensures.reads c.read_block-2.ensures.reads

pub returns-clause-order : goal.returns-clause-order
returns-clause-order g c us vs h k = let n = length c.args.left.now in let d = c.args.from in
    let l = c.read_block.ensures.units us h in
    let r = c.read_block-2.ensures.units vs (c.read_block.ensures.reads.known.units c.args.b.id vs k) ∙ ap
    (λ (m : ℕ). slice_range vs d (d + m)) c.requires.alike in
    run_then us vs d n (c.requires.left_long us h) (c.requires.right_long vs k)
    ∙ ap (λ o. ordering_then o (units_cmp (drop (d + n) us) (drop (d + n) vs))) (ap₂ units_cmp (sym l) (sym r) ∙ sym c.cmp.ensures)
