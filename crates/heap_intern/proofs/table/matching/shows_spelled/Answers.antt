use Rattle.std.proofs.Common.{◌∙◌, ℕ, ◌<◌, List, length, refl, sym, take, arith}
use Rattle.heap_rule.specs.declared.view.View.{View}
use Rattle.heap_bytes.specs.Spellings.{spelling_units}
use Rattle.heap_bytes.proofs.Pieces.{all_done, fewer_left, piece_left, piece_long, piece_unit, piece_within}
use Rattle.heap_read.proofs.Comparison.{frozen_window_stays}
use Rattle.heap_read.proofs.Loaded.{reads_refl, reads_trans}
use Rattle.heap_read.proofs.Showing.{forms_held, place_small}
use Rattle.heap_read.proofs.WindowLemmas.{forms_trans}
use Rattle.heap_intern.proofs.Spelled.{part_frozen, piece_on, piece_other}
use Rattle.heap_intern.proofs.table.matching.shows_spelled.Goals as goal

pub loop-count-init : goal.loop-count-init
loop-count-init g c = let v : View = c.args.reader.now.agent.seat.me.0 in record {
  long = refl;
  heap = refl;
  reads = reads_refl v;
  forms = (refl, refl);
  learned = c.requires.learned;
  within = omega arith;
  read = c.requires.read;
  left = refl;
  same = λ k l. absurd (omega arith);
}

pub overflow_add-part : goal.overflow_add-part
overflow_add-part g c = let v : View = c.args.reader.now.agent.seat.me.0 in let us : List ℕ = spelling_units c.args.source.now in let p = c.in-Some.ensures in let i = c.loop-count.invariant in
    let n = piece_within us c.split_front.new.room (spelling_units c.loop-count.rest) (spelling_units c.in-Some.after) c.loop-count.done c.in-Some.count i.left p.most p.split i.within in
    let a = place_small v c.args.w c.loop-count.done c.args.reader.now.belongs.5 c.requires.frozen (omega (arith, n, p.some, c.requires.long)) in omega arith

pub overflow_add-done : goal.overflow_add-done
overflow_add-done g c = let us : List ℕ = spelling_units c.args.source.now in let p = c.in-Some.ensures in let i = c.loop-count.invariant in
    let n = piece_within us c.split_front.new.room (spelling_units c.loop-count.rest) (spelling_units c.in-Some.after) c.loop-count.done c.in-Some.count
    i.left p.most p.split i.within in omega (arith, n, c.requires.short)

pub shows_list-requires-clause-frozen : goal.shows_list-requires-clause-frozen
shows_list-requires-clause-frozen g c = let v : View = c.args.reader.now.agent.seat.me.0 in
    let u : View = c.loop-count.reader.agent.seat.me.0 in let us : List ℕ = spelling_units c.args.source.now in let p = c.in-Some.ensures in
    let i = c.loop-count.invariant in
    let n = piece_within us c.split_front.new.room (spelling_units c.loop-count.rest) (spelling_units c.in-Some.after) c.loop-count.done c.in-Some.count i.left p.most p.split i.within in
    part_frozen u c.args.w c.loop-count.done c.in-Some.count (omega (arith, n, c.requires.long)) (frozen_window_stays v u c.args.w (forms_held v u i.forms.0) i.reads.known c.requires.frozen)

pub shows_list-requires-clause-long : goal.shows_list-requires-clause-long
shows_list-requires-clause-long g c = let us : List ℕ = spelling_units c.args.source.now in let p = c.in-Some.ensures in
    sym (piece_long us c.split_front.new.room (spelling_units c.loop-count.rest) (spelling_units c.in-Some.after) c.loop-count.done c.in-Some.count c.loop-count.invariant.left p.most p.split)

pub loop-count-smaller : goal.loop-count-smaller
loop-count-smaller g c = let p = c.in-Some.ensures in
    let k : length (spelling_units c.in-Some.after) < length (spelling_units c.loop-count.rest) = fewer_left c.split_front.new.room
    (spelling_units c.loop-count.rest) (spelling_units c.in-Some.after) c.in-Some.count p.some p.most p.split in k

pub loop-count-preserved : goal.loop-count-preserved
loop-count-preserved g c = let v : View = c.args.reader.now.agent.seat.me.0 in let u : View = c.loop-count.reader.agent.seat.me.0 in let x : View = c.shows_list.new.reader.agent.seat.me.0 in
    let us : List ℕ = spelling_units c.args.source.now in let p = c.in-Some.ensures in let i = c.loop-count.invariant in
    let e = c.shows_list.ensures in let done = c.loop-count.done in let count = c.in-Some.count in
    let room = c.split_front.new.room in let vs : List ℕ = spelling_units c.loop-count.rest in let ws : List ℕ = spelling_units c.in-Some.after in record {
      long = c.split_front.auto.room ∙ i.long;
      heap = e.reads.heap ∙ i.heap;
      reads = reads_trans v u x i.reads e.reads.view;
      forms = forms_trans v u x i.forms e.forms;
      learned = e.learned;
      within = piece_within us room vs ws done count i.left p.most p.split i.within;
      read = p.read;
      left = piece_left us room vs ws done count i.left p.most p.split;
      same = piece_on u x c.args.w us (take count room) done count (piece_long us room vs ws done count i.left p.most p.split)
          (piece_unit us room vs ws done count i.left p.most p.split) e.reads.view.known i.same c.if-not-shows_list.ensures.same;
    }

pub returns-then-not-shows_list-clause-reads : goal.returns-then-not-shows_list-clause-reads
returns-then-not-shows_list-clause-reads g c = let v : View = c.args.reader.now.agent.seat.me.0 in
    let u : View = c.loop-count.reader.agent.seat.me.0 in let x : View = c.shows_list.new.reader.agent.seat.me.0 in
    let i = c.loop-count.invariant in let e = c.shows_list.ensures in
    record { heap = e.reads.heap ∙ i.heap; view = reads_trans v u x i.reads e.reads.view }

pub returns-then-not-shows_list-clause-forms : goal.returns-then-not-shows_list-clause-forms
returns-then-not-shows_list-clause-forms g c = let v : View = c.args.reader.now.agent.seat.me.0 in
    let u : View = c.loop-count.reader.agent.seat.me.0 in let x : View = c.shows_list.new.reader.agent.seat.me.0 in
    forms_trans v u x c.loop-count.invariant.forms c.shows_list.ensures.forms

pub returns-then-not-shows_list-clause-same : goal.returns-then-not-shows_list-clause-same
returns-then-not-shows_list-clause-same g c = let u : View = c.loop-count.reader.agent.seat.me.0 in let x : View = c.shows_list.new.reader.agent.seat.me.0 in
    let us : List ℕ = spelling_units c.args.source.now in let p = c.in-Some.ensures in let i = c.loop-count.invariant in let done = c.loop-count.done in let count = c.in-Some.count in
    let room = c.split_front.new.room in let vs : List ℕ = spelling_units c.loop-count.rest in let ws : List ℕ = spelling_units c.in-Some.after in
    piece_other u x c.args.w us (take count room) done count (piece_long us room vs ws done count i.left p.most p.split) (piece_unit us room vs ws done count i.left p.most p.split)
    (piece_within us room vs ws done count i.left p.most p.split i.within) c.if-not-shows_list.ensures.same

pub returns-clause-same : goal.returns-clause-same
returns-clause-same g c = let us : List ℕ = spelling_units c.args.source.now in let i = c.loop-count.invariant in
    let all = all_done us (spelling_units c.loop-count.rest) c.loop-count.done i.left c.in_default.ensures i.within in
    record { each = λ k l. i.same k (omega (arith, all, l)) }
