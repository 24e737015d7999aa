use Rattle.std.proofs.Common.{◌≡◌, ◌+◌, ◌<◌, ◌≤◌, ◌∙◌, ℕ, length, refl, sym, take, arith}
use Rattle.js_search.specs.Order.{units_cmp}
use Rattle.heap_table.specs.Agents.{view_of}
use Rattle.heap_bytes.specs.Spellings.{spelling_units}
use Rattle.heap_bytes.proofs.Pieces.{fewer_left}
use Rattle.std.proofs.lemmas.List.{length-take-le}
use Rattle.heap_export.proofs.PieceByPiece.{by_lengths, next_piece, other_piece, piece_reaches}
use Rattle.heap_export.proofs.UnitByUnit.{is_equal, is_other}
use Rattle.heap_export.proofs.Windows.{loads_none, loads_on, still_shown, window_len, window_there}
use Rattle.heap_export.proofs.spelled.compare_window.Goals as goal

pub loop-count-init : goal.loop-count-init
loop-count-init g c = record {
  long = refl;
  kept = record { heap = refl; limit = refl };
  loads = loads_none (view_of c.args.text.now.reader.agent);
  read = c.requires.read;
  within = omega arith;
  left = λ us h. refl;
}

pub compare_piece-order-requires-clause-window : goal.compare_piece-order-requires-clause-window
compare_piece-order-requires-clause-window g c = window_there (view_of c.args.text.now.reader.agent) (view_of c.loop-count.text.reader.agent) c.args.w c.requires.window c.loop-count.invariant.loads

pub loop-count-smaller : goal.loop-count-smaller
loop-count-smaller g c = let p = c.in-Some.ensures in
    let k : length (spelling_units c.in-Some.after) < length (spelling_units c.loop-count.rest) = fewer_left c.split_front.new.room
    (spelling_units c.loop-count.rest) (spelling_units c.in-Some.after) c.in-Some.count p.some p.most p.split in k

reached : (done count len all : ℕ) → done + count ≤ all → all ≡ len → done + count ≤ len
reached done count len all h e = omega (arith, h, e)

pub overflow_add-done : goal.overflow_add-done
overflow_add-done g c = let p = c.in-Some.ensures in let i = c.loop-count.invariant in let e = c.compare_piece-order.ensures in
    let v = view_of c.args.text.now.reader.agent in let m = view_of c.loop-count.text.reader.agent in let room = c.split_front.new.room in
    let q = c.requires.window in let n = window_len v c.args.w q.0 q.1 in
    let same = is_equal c.compare_piece-order.result (sym c.ne.ensures ∙ c.if-ne.false) in
    let far = piece_reaches q.0 (take c.in-Some.count room) (spelling_units c.loop-count.rest) (spelling_units c.in-Some.after) c.loop-count.done
    c.in-Some.count (units_cmp q.0 (spelling_units c.args.source.now)) c.compare_piece-order.result
    (length-take-le c.in-Some.count room p.most) p.split (i.left q.0 q.1) (e.order q.0 (still_shown v m c.args.w q.0 i.loads q.1)) same (omega (arith, n, i.within)) in
    let all = reached c.loop-count.done c.in-Some.count c.args.w.len (length q.0) far n in omega arith

pub loop-count-preserved : goal.loop-count-preserved
loop-count-preserved g c = let p = c.in-Some.ensures in let i = c.loop-count.invariant in let e = c.compare_piece-order.ensures in
    let v = view_of c.args.text.now.reader.agent in let m = view_of c.loop-count.text.reader.agent in let room = c.split_front.new.room in
    let q = c.requires.window in let n = window_len v c.args.w q.0 q.1 in
    let same = is_equal c.compare_piece-order.result (sym c.ne.ensures ∙ c.if-ne.false) in
    let far = piece_reaches q.0 (take c.in-Some.count room) (spelling_units c.loop-count.rest) (spelling_units c.in-Some.after) c.loop-count.done
    c.in-Some.count (units_cmp q.0 (spelling_units c.args.source.now)) c.compare_piece-order.result
    (length-take-le c.in-Some.count room p.most) p.split (i.left q.0 q.1) (e.order q.0 (still_shown v m c.args.w q.0 i.loads q.1)) same (omega (arith, n, i.within)) in record {
      long = c.split_front.auto.room ∙ i.long;
      kept = record { heap = e.kept.heap ∙ i.kept.heap; limit = e.kept.limit ∙ i.kept.limit };
      loads = loads_on v m (view_of c.compare_piece-order.new.text.reader.agent) i.loads e.loads;
      read = p.read;
      within = reached c.loop-count.done c.in-Some.count c.args.w.len (length q.0) far n;
      left = λ us h. next_piece us (take c.in-Some.count room) (spelling_units c.loop-count.rest) (spelling_units c.in-Some.after) c.loop-count.done
          c.in-Some.count (units_cmp us (spelling_units c.args.source.now)) c.compare_piece-order.result
          (length-take-le c.in-Some.count room p.most) p.split (i.left us h) (e.order us (still_shown v m c.args.w us i.loads h)) same;
    }

pub returns-then-ne-clause-loads : goal.returns-then-ne-clause-loads
returns-then-ne-clause-loads g c = loads_on (view_of c.args.text.now.reader.agent) (view_of c.loop-count.text.reader.agent)
    (view_of c.compare_piece-order.new.text.reader.agent) c.loop-count.invariant.loads c.compare_piece-order.ensures.loads

pub returns-then-ne-clause-order : goal.returns-then-ne-clause-order
returns-then-ne-clause-order g c us h = let p = c.in-Some.ensures in let i = c.loop-count.invariant in let e = c.compare_piece-order.ensures in
    let v = view_of c.args.text.now.reader.agent in let m = view_of c.loop-count.text.reader.agent in let room = c.split_front.new.room in
    other_piece us (take c.in-Some.count room) (spelling_units c.loop-count.rest) (spelling_units c.in-Some.after) c.loop-count.done c.in-Some.count
    (units_cmp us (spelling_units c.args.source.now)) c.compare_piece-order.result
    (length-take-le c.in-Some.count room p.most) p.split (i.left us h) (e.order us (still_shown v m c.args.w us i.loads h)) (is_other c.compare_piece-order.result (sym c.ne.ensures ∙ c.if-ne.true))

pub returns-clause-order : goal.returns-clause-order
returns-clause-order g c us h = let i = c.loop-count.invariant in let v = view_of c.args.text.now.reader.agent in
    c.cmp.ensures ∙ (by_lengths us (spelling_units c.loop-count.rest) c.loop-count.done c.args.w.len c.in_default.ensures (sym (window_len v c.args.w us h)) i.within ∙ i.left us h)
