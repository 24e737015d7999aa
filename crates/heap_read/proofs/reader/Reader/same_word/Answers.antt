use Rattle.std.proofs.Common.{◌≡◌, ◌∙◌, ◌+◌, ◌%◌, ℕ, Bool, ap, refl, subst, sym}
use Rattle.std.proofs.lemmas.Bool.{eqb-true}
use Rattle.js_units.specs.Lanes.{lane_count, lane_of}
use Rattle.heap_rule.specs.declared.view.View.{View}
use Rattle.heap_read.proofs.Loaded.{reads_trans}
use Rattle.heap_read.proofs.Showing.{window_frozen}
use Rattle.heap_read.proofs.WindowLemmas.{frozen_later, whole_on, window_later}
use Rattle.heap_read.proofs.reader.Reader.same_word.Goals as goal

pub word_from-one-requires-clause-frozen : goal.word_from-one-requires-clause-frozen
word_from-one-requires-clause-frozen g c = window_frozen c.args.self.now.agent.seat.me.0 c.args.a c.requires.left.0 c.requires.left.1

pub word_from-other-requires-clause-frozen : goal.word_from-other-requires-clause-frozen
word_from-other-requires-clause-frozen g c = let v : View = c.args.self.now.agent.seat.me.0 in let u : View = c.word_from-one.new.self.agent.seat.me.0 in
    let e = c.word_from-one.ensures in frozen_later v u c.args.b c.requires.right.0 e.reads.view e.forms c.requires.right.1

pub returns-clause-reads : goal.returns-clause-reads
returns-clause-reads g c = let v : View = c.args.self.now.agent.seat.me.0 in let u : View = c.word_from-one.new.self.agent.seat.me.0 in
    let x : View = c.word_from-other.new.self.agent.seat.me.0 in let e = c.word_from-one.ensures in let f = c.word_from-other.ensures in
    record { heap = f.reads.heap ∙ e.reads.heap; view = reads_trans v u x e.reads.view f.reads.view }

pub returns-clause-same : goal.returns-clause-same
returns-clause-same g c t us vs left right k l m n = let v : View = c.args.self.now.agent.seat.me.0 in let u : View = c.word_from-one.new.self.agent.seat.me.0 in
    let e = c.word_from-one.ensures in let f = c.word_from-other.ensures in let alike = c.requires.alike in
    let one = whole_on c.args.a us c.args.i c.word_from-one.result c.args.a.wide refl (e.word us left) c.requires.places.0.lowest k l m in
    let low = subst (λ (b : Bool). (c.args.b.offset + c.args.i) % lane_count b ≡ 0) (sym alike) c.requires.places.1.lowest in
    let other = whole_on c.args.b vs c.args.i c.word_from-other.result c.args.a.wide alike (f.word vs (window_later v u c.args.b vs e.reads.view e.forms right)) low k l n in
    sym one ∙ (ap (λ (x : ℕ). lane_of c.args.a.wide x k) (eqb-true c.word_from-one.result c.word_from-other.result t) ∙ other)
