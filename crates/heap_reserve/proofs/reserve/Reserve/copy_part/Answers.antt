use Rattle.std.proofs.Common.{◌≡◌, ◌∙◌, ℕ, List, length, ap, subst, arith}
use Rattle.heap_rule.specs.declared.view.View.{View}
use Rattle.heap_rule.specs.Births.{part}
use Rattle.heap_rule.proofs.Possible.{possible_short}
use Rattle.heap_read.proofs.Going.{continues_reads, continues_trans}
use Rattle.heap_text.proofs.Pieces.{length_part}
use Rattle.heap_rule.specs.declared.size.HeapSize.{HeapSize}
use Rattle.heap_table.specs.Agents.{size_of}
use Rattle.heap_reserve.specs.Making.{IsFlatAnswer}
use Rattle.heap_reserve.proofs.After.{flat_after}
use Rattle.heap_reserve.proofs.reserve.Reserve.copy_part.Goals as goal

pub copy-requires-clause-count : goal.copy-requires-clause-count
copy-requires-clause-count g c = let t = c.requires.within in ap length (c.part_piece-piece.ensures.units t.0 t.1) ∙ length_part c.args.from c.args.n t.0 t.2

pub copy-requires-clause-short : goal.copy-requires-clause-short
copy-requires-clause-short g c = let v : View = c.args.reader.now.agent.seat.me.0 in let t = c.requires.within in
    let b = possible_short v c.args.reader.now.belongs.5 c.args.s.id t.0 t.1 in let room = t.2 in omega arith

pub returns-clause-continues : goal.returns-clause-continues
returns-clause-continues g c = let v : View = c.args.reader.now.agent.seat.me.0 in let u : View = c.part_piece-piece.new.reader.agent.seat.me.0 in
    record {
      heap = c.copy.ensures.continues.heap ∙ c.part_piece-piece.ensures.reads.heap;
      view = continues_trans v u c.copy.new.reader.agent.seat.me.0 (continues_reads v u c.part_piece-piece.ensures.reads.view) c.copy.ensures.continues.view;
    }

pub returns-clause-made : goal.returns-clause-made
returns-clause-made g c us h = let v : View = c.args.reader.now.agent.seat.me.0 in
    let u : View = c.part_piece-piece.new.reader.agent.seat.me.0 in let w : View = c.copy.new.reader.agent.seat.me.0 in
    let r = c.args.self.now in let s = c.copy.new.self in
    let z : HeapSize = size_of (g.H.HeapRef.reached c.args.reader.now.heap) in
    let same : size_of (g.H.HeapRef.reached c.part_piece-piece.new.reader.heap) ≡ z = ap (λ y. size_of (g.H.HeapRef.reached y)) c.part_piece-piece.ensures.reads.heap in
    flat_after v u w r s c.part_piece-piece.ensures.reads.view z (part c.args.from c.args.n us) c.copy.result
    (subst (λ (y : HeapSize). IsFlatAnswer u w r s y (part c.args.from c.args.n us) c.copy.result) same
    (subst (λ (xs : List ℕ). IsFlatAnswer u w r s (size_of (g.H.HeapRef.reached c.part_piece-piece.new.reader.heap)) xs c.copy.result) (c.part_piece-piece.ensures.units us h) c.copy.ensures.made))
