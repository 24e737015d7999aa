use Rattle.std.proofs.Common.{◌≡◌, ◌≤◌, ◌+◌, ◌∙◌, ℕ, List, length, ap, subst, sym, arith, Some}
use Rattle.std.specs.Prelude.{IfErr}
use Rattle.js_units.specs.Lanes.{words_over, is_wide}
use Rattle.heap_rule.specs.declared.size.HeapSize.{HeapSize}
use Rattle.heap_rule.specs.declared.view.View.{View}
use Rattle.heap_rule.specs.Births.{part}
use Rattle.heap_rule.proofs.Possible.{possible_short}
use Rattle.heap_table.specs.Agents.{size_of}
use Rattle.heap_read.specs.declared.source.UnitSource.TheVariants as source
use Rattle.heap_read.specs.Sources.{source_units}
use Rattle.heap_text.specs.Texts.{LacksRoom}
use Rattle.heap_read.proofs.Going.{continues_reads, continues_trans}
use Rattle.heap_text.proofs.Owned.{own_reads, own_trans}
use Rattle.heap_text.proofs.Pieces.{copy_answer, length_part}
use Rattle.heap_text.proofs.making.copy_part.Goals as goal

pub copy-requires-clause-count : goal.copy-requires-clause-count
copy-requires-clause-count g c = let t = c.requires.within in ap length (c.part_piece-piece.ensures.units t.0 t.1) ∙ length_part c.args.from c.args.n t.0 t.2

pub copy-requires-clause-short : goal.copy-requires-clause-short
copy-requires-clause-short g c = let v : View = c.args.reader.now.agent.seat.me.0 in let t = c.requires.within in
    let b = possible_short v c.args.reader.now.belongs.5 c.args.s.id t.0 t.1 in let room = t.2 in omega arith

pub returns-clause-continues : goal.returns-clause-continues
returns-clause-continues g c = let v : View = c.args.reader.now.agent.seat.me.0 in let w : View = c.part_piece-piece.new.reader.agent.seat.me.0 in
    record {
      heap = c.copy.ensures.continues.heap ∙ c.part_piece-piece.ensures.reads.heap;
      view = continues_trans v w c.copy.new.reader.agent.seat.me.0 (continues_reads v w c.part_piece-piece.ensures.reads.view) c.copy.ensures.continues.view;
    }

pub returns-clause-copied : goal.returns-clause-copied
returns-clause-copied g c us h = let v : View = c.args.reader.now.agent.seat.me.0 in
    let w : View = c.part_piece-piece.new.reader.agent.seat.me.0 in let x : View = c.copy.new.reader.agent.seat.me.0 in
    let t = c.requires.within in let n : ℕ = c.args.n in
    let same_units : t.0 ≡ us = (let both : Some t.0 ≡ Some us = sym t.1 ∙ h in cc) in let room : c.args.from + n ≤ length us = subst (λ (xs : List ℕ). c.args.from + n ≤ length xs) same_units t.2 in
    let xs : List ℕ = source_units w (source.Piece c.part_piece-piece.result) in
    let all : xs ≡ part c.args.from n us = c.part_piece-piece.ensures.units us h in
    let count : n ≡ length (part c.args.from n us) = sym (length_part c.args.from n us room) in
    let same : size_of (g.H.HeapRef.reached c.part_piece-piece.new.reader.heap) ≡ size_of (g.H.HeapRef.reached c.args.reader.now.heap) = ap
    (λ y. size_of (g.H.HeapRef.reached y)) c.part_piece-piece.ensures.reads.heap in let e = c.copy.ensures in
    copy_answer v w x (size_of (g.H.HeapRef.reached c.args.reader.now.heap)) c.copy.result xs (part c.args.from n us) n all
    (λ i. words_over (is_wide (all i)) (count i)) c.part_piece-piece.ensures.reads.view e.units e.form e.used
    (subst (λ (y : HeapSize). IfErr c.copy.result (λ f. LacksRoom x y (words_over (is_wide xs) n) f)) same e.refused) e.spared

pub returns-clause-own : goal.returns-clause-own
returns-clause-own g c = let v : View = c.args.reader.now.agent.seat.me.0 in let w : View = c.part_piece-piece.new.reader.agent.seat.me.0 in
    own_trans v w c.copy.new.reader.agent.seat.me.0 (own_reads v w c.part_piece-piece.ensures.reads.view) c.copy.ensures.own
