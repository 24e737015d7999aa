use Rattle.std.proofs.Common.{◌≡◌, ◌∙◌, ap, subst, arith}
use Rattle.std.proofs.lemmas.Result.{err_from_is_err_and}
use Rattle.heap_rule.specs.declared.size.HeapSize.{HeapSize}
use Rattle.heap_rule.specs.declared.view.View.{View}
use Rattle.heap_table.specs.Agents.{size_of}
use Rattle.heap_read.proofs.Going.{continues_trans}
use Rattle.heap_text.proofs.Owned.{own_trans}
use Rattle.heap_reserve.specs.Claims.{IsIdRefused}
use Rattle.heap_reserve.proofs.Kept.{claimed_still, claimed_then, refused_then, reserve_still}
use Rattle.heap_reserve.proofs.reserve.Reserve.claim_ids.Goals as goal

pub pieces-preserved : goal.pieces-preserved
pieces-preserved g c = let v : View = c.args.reader.now.agent.seat.me.0 in let u : View = c.pieces.reader.agent.seat.me.0 in
    let w : View = c.claim_piece-in-pieces.new.reader.agent.seat.me.0 in let i = c.pieces.invariant in let e = c.claim_piece-in-pieces.ensures in let ok = c.in_ok-done-2.ensures.ok in
    let n = c.in_ok-done-2.field-0 in let most = ok.1 in let less = c.pieces-test.true in let within = i.within in let some = i.some in let fits = c.in-Ok.ensures.piece.0 in record {
      heap = e.continues.heap ∙ i.heap;
      continues = continues_trans v u w i.continues e.continues.view;
      own = own_trans v u w i.own e.own;
      forms = λ j f h. e.forms j f (i.forms j f h);
      reserve = e.reserve;
      some = omega (arith, some);
      within = omega (arith, most, fits, less, within);
      claimed = claimed_then v u w c.args.self.now c.make_room.new.self c.claim_piece-in-pieces.new.self c.pieces.done n 0
          (claimed_still v u c.args.self.now c.pieces.self c.make_room.new.self c.pieces.done 0 i.claimed c.make_room.ensures.ids c.make_room.ensures.words) ok.2;
    }

pub returns-in_err-done-2-clause-continues : goal.returns-in_err-done-2-clause-continues
returns-in_err-done-2-clause-continues g c = let i = c.pieces.invariant in let e = c.claim_piece-in-pieces.ensures in record {
  heap = e.continues.heap ∙ i.heap;
  view = continues_trans c.args.reader.now.agent.seat.me.0 c.pieces.reader.agent.seat.me.0 c.claim_piece-in-pieces.new.reader.agent.seat.me.0 i.continues e.continues.view;
}

pub returns-in_err-done-2-clause-refused : goal.returns-in_err-done-2-clause-refused
returns-in_err-done-2-clause-refused g c = let v : View = c.args.reader.now.agent.seat.me.0 in let u : View = c.pieces.reader.agent.seat.me.0 in
    let w : View = c.claim_piece-in-pieces.new.reader.agent.seat.me.0 in let i = c.pieces.invariant in let less = c.pieces-test.true in let f = c.in_err-done-2.field-0.0 in
    let z : HeapSize = size_of (g.H.HeapRef.reached c.args.reader.now.heap) in
    let same : size_of (g.H.HeapRef.reached c.pieces.reader.heap) ≡ z = ap (λ y. size_of (g.H.HeapRef.reached y)) i.heap in
    let p = err_from_is_err_and c.from_residual-in_err-done-2.result c.from_residual-in_err-done-2.ensures.1 in
    rw (p.1, p.2) (refused_then v u w z c.args.self.now c.make_room.new.self c.claim_piece-in-pieces.new.self c.pieces.done c.args.ids f (omega (arith, less))
    (claimed_still v u c.args.self.now c.pieces.self c.make_room.new.self c.pieces.done 0 i.claimed c.make_room.ensures.ids c.make_room.ensures.words)
    (subst (λ (y : HeapSize). IsIdRefused u w y c.make_room.new.self c.claim_piece-in-pieces.new.self 1 0 f) same c.in_err-done-2.ensures.refused))
