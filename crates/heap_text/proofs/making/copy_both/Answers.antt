use Rattle.std.proofs.Common.{◌≡◌, ◌+◌, ◌++◌, ◌∙◌, ℕ, List, length, ap, subst, sym, Some}
use Rattle.std.proofs.lemmas.List.{length-append}
use Rattle.js_units.specs.Lanes.{words_over, is_wide}
use Rattle.heap_rule.specs.declared.size.HeapSize.{HeapSize}
use Rattle.heap_rule.specs.declared.view.View.{View}
use Rattle.heap_table.specs.Agents.{size_of}
use Rattle.heap_read.specs.declared.source.UnitSource.TheVariants as source
use Rattle.heap_text.specs.Joins.{IsCopied}
use Rattle.heap_read.specs.Sources.{source_units}
use Rattle.heap_read.proofs.Going.{continues_reads, continues_trans}
use Rattle.heap_text.proofs.Owned.{own_reads, own_trans}
use Rattle.heap_text.proofs.Pieces.{copy_answer}
use Rattle.heap_text.proofs.making.copy_both.Goals as goal

pub copy-requires-clause-count : goal.copy-requires-clause-count
copy-requires-clause-count g c = let k = c.requires.known in ap length (c.both_pieces.ensures.units k.0 k.1 k.2 k.3) ∙ (length-append k.0 k.1 ∙ k.6)

pub returns-clause-continues : goal.returns-clause-continues
returns-clause-continues g c = let v : View = c.args.reader.now.agent.seat.me.0 in let w : View = c.both_pieces.new.reader.agent.seat.me.0 in
    record {
      heap = c.copy.ensures.continues.heap ∙ c.both_pieces.ensures.reads.heap;
      view = continues_trans v w c.copy.new.reader.agent.seat.me.0 (continues_reads v w c.both_pieces.ensures.reads.view) c.copy.ensures.continues.view;
    }

pub returns-clause-copied : goal.returns-clause-copied
returns-clause-copied g c us vs h k = let v : View = c.args.reader.now.agent.seat.me.0 in
    let w : View = c.both_pieces.new.reader.agent.seat.me.0 in let x : View = c.copy.new.reader.agent.seat.me.0 in let e = c.copy.ensures in
    let kn = c.requires.known in
    let xs : List ℕ = source_units w (source.Pieces c.both_pieces.result.0 c.both_pieces.result.1) in
    let all : xs ≡ us ++ vs = c.both_pieces.ensures.units us vs h k in
    let left : kn.0 ≡ us = (let both : Some kn.0 ≡ Some us = sym kn.2 ∙ h in cc) in let right : kn.1 ≡ vs = (let both : Some kn.1 ≡ Some vs = sym kn.3 ∙ k in cc) in
    let count : c.args.n ≡ length (us ++ vs) = sym kn.6 ∙ ((λ i. length (left i) + length (right i)) ∙ sym (length-append us vs)) in
    let same : size_of (g.H.HeapRef.reached c.both_pieces.new.reader.heap) ≡ size_of (g.H.HeapRef.reached c.args.reader.now.heap) = ap
    (λ y. size_of (g.H.HeapRef.reached y)) c.both_pieces.ensures.reads.heap in
    subst (λ (z : HeapSize). IsCopied v x z (us ++ vs) c.copy.result) same
    (copy_answer v w x (size_of (g.H.HeapRef.reached c.both_pieces.new.reader.heap)) c.copy.result xs (us ++ vs) c.args.n all
    (λ i. words_over (is_wide (all i)) (count i)) c.both_pieces.ensures.reads.view e.units e.form e.used e.refused e.spared)

pub returns-clause-own : goal.returns-clause-own
returns-clause-own g c = let v : View = c.args.reader.now.agent.seat.me.0 in let w : View = c.both_pieces.new.reader.agent.seat.me.0 in
    own_trans v w c.copy.new.reader.agent.seat.me.0 (own_reads v w c.both_pieces.ensures.reads.view) c.copy.ensures.own
