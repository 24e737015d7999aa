use Rattle.std.proofs.Common.{◌≡◌, ◌++◌, ◌∙◌, ℕ, List, length, ap, subst}
use Rattle.std.proofs.lemmas.List.{length-append}
use Rattle.heap_rule.specs.declared.view.View.{View}
use Rattle.heap_read.proofs.Going.{continues_reads, continues_trans}
use Rattle.heap_rule.specs.declared.size.HeapSize.{HeapSize}
use Rattle.heap_table.specs.Agents.{size_of}
use Rattle.heap_reserve.specs.Making.{IsFlatAnswer}
use Rattle.heap_reserve.proofs.After.{flat_after}
use Rattle.heap_reserve.proofs.reserve.Reserve.copy_both.Goals as goal

pub copy-requires-clause-count : goal.copy-requires-clause-count
copy-requires-clause-count g c = let k = c.requires.known in ap length (c.both_pieces.ensures.units k.0 k.1 k.2 k.3) ∙ (length-append k.0 k.1 ∙ k.6)

pub returns-clause-continues : goal.returns-clause-continues
returns-clause-continues g c = let v : View = c.args.reader.now.agent.seat.me.0 in let u : View = c.both_pieces.new.reader.agent.seat.me.0 in
    record {
      heap = c.copy.ensures.continues.heap ∙ c.both_pieces.ensures.reads.heap;
      view = continues_trans v u c.copy.new.reader.agent.seat.me.0 (continues_reads v u c.both_pieces.ensures.reads.view) c.copy.ensures.continues.view;
    }

pub returns-clause-made : goal.returns-clause-made
returns-clause-made g c us vs h k = let v : View = c.args.reader.now.agent.seat.me.0 in
    let u : View = c.both_pieces.new.reader.agent.seat.me.0 in let w : View = c.copy.new.reader.agent.seat.me.0 in let r = c.args.self.now in
    let s = c.copy.new.self in
    let z : HeapSize = size_of (g.H.HeapRef.reached c.args.reader.now.heap) in
    let same : size_of (g.H.HeapRef.reached c.both_pieces.new.reader.heap) ≡ z = ap (λ y. size_of (g.H.HeapRef.reached y)) c.both_pieces.ensures.reads.heap in
    flat_after v u w r s c.both_pieces.ensures.reads.view z (us ++ vs) c.copy.result
    (subst (λ (y : HeapSize). IsFlatAnswer u w r s y (us ++ vs) c.copy.result) same
    (subst (λ (xs : List ℕ). IsFlatAnswer u w r s (size_of (g.H.HeapRef.reached c.both_pieces.new.reader.heap)) xs c.copy.result) (c.both_pieces.ensures.units us vs h k) c.copy.ensures.made))
