use Rattle.std.proofs.Common.{ℕ, List, get_or, ap, arith}
use Rattle.heap_table.specs.Agents.{view_of}
use Rattle.heap_rule.proofs.MapLemmas.{has_key}
use Rattle.heap_read.proofs.Loaded.{reads_trans}
use Rattle.heap_export.proofs.UnitByUnit.{same_passed}
use Rattle.heap_export.proofs.Windows.{one_units}
use Rattle.heap_export.proofs.comparing.compare_fronts.Goals as goal

pub returns-then-a-b-clause-order : goal.returns-then-a-b-clause-order
returns-then-a-b-clause-order g c us vs h k = let v = view_of c.args.text.now.reader.agent in let e = one_units v.units c.args.a.id c.args.b.id us vs c.if-a-b.true h k in
    same_passed us vs c.args.size (c.requires.left_long us h) (c.requires.right_long vs k) (λ j l. ap (λ (xs : List ℕ). get_or xs j 0) e)

pub returns-in_default-clause-reads : goal.returns-in_default-clause-reads
returns-in_default-clause-reads g c = reads_trans _ _ _ c.both_windows.ensures.reads.view c.compare_read.ensures.reads

pub returns-then-pair-clause-reads : goal.returns-then-pair-clause-reads
returns-then-pair-clause-reads g c = reads_trans _ _ _ c.both_windows.ensures.reads.view c.compare_read-then-pair.ensures.reads

pub compare_windows-requires-clause-left : goal.compare_windows-requires-clause-left
compare_windows-requires-clause-left g c = let p = has_key (view_of c.args.text.now.reader.agent).units c.args.a.id c.requires.left_known in
    (p.0, (c.in-Some.ensures.shows.0 p.0 p.1).0)

pub compare_windows-requires-clause-right : goal.compare_windows-requires-clause-right
compare_windows-requires-clause-right g c = let p = has_key (view_of c.args.text.now.reader.agent).units c.args.b.id c.requires.right_known in
    (p.0, (c.in-Some.ensures.shows.1 p.0 p.1).0)

pub compare_windows-requires-clause-within : goal.compare_windows-requires-clause-within
compare_windows-requires-clause-within g c = let v = view_of c.args.text.now.reader.agent in
    let p = has_key v.units c.args.a.id c.requires.left_known in let q = has_key v.units c.args.b.id c.requires.right_known in
    let left = (c.in-Some.ensures.shows.0 p.0 p.1).1 in let right = (c.in-Some.ensures.shows.1 q.0 q.1).1 in
    let a = c.requires.left_long p.0 p.1 in let b = c.requires.right_long q.0 q.1 in (omega (arith, a, left), omega (arith, b, right))

pub returns-clause-reads : goal.returns-clause-reads
returns-clause-reads g c = reads_trans _ _ _ c.both_windows.ensures.reads.view c.compare_windows.ensures.loads.reads
