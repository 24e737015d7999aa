use Rattle.std.proofs.Common.{◌+◌, ◌<◌, ◌∙◌, ◌/◌, ℕ, List, get_or, length, refl, subst, take, arith}
use Rattle.js_units.specs.Lanes.{lane_count}
use Rattle.heap_rule.specs.declared.view.View.{View}
use Rattle.heap_read.specs.Filling.{IsFilled, own_word}
use Rattle.heap_read.proofs.Placing.{filled_none, filled_on}
use Rattle.heap_read.proofs.Storing.{writes_refl, writes_trans}
use Rattle.heap_read.proofs.WindowLemmas.{forms_trans}
use Rattle.heap_bytes.specs.Spellings.{spelling_units}
use Rattle.heap_bytes.proofs.Pieces.{all_done, fewer_left, piece_left, piece_long, piece_unit, piece_within}
use Rattle.heap_bytes.proofs.Runs.{filled_as, words_more}
use Rattle.heap_bytes.proofs.writing.fill_spelled.Goals as goal

pub loop-count-init : goal.loop-count-init
loop-count-init g c = let v : View = c.args.reader.now.agent.seat.me.0 in let us : List ℕ = spelling_units c.args.source.now in record {
  long = refl;
  heap = refl;
  writes = writes_refl v;
  below = λ q y l h. h;
  above = λ q y l h. h;
  forms = (refl, refl);
  filled = filled_none c.args.to.wide c.args.to.start (own_word v.own_words) 0 (λ k. get_or us k 0);
  within = omega arith;
  read = c.requires.read;
  left = refl;
}

pub copy_lanes-requires-clause-count : goal.copy_lanes-requires-clause-count
copy_lanes-requires-clause-count g c = let us : List ℕ = spelling_units c.args.source.now in let p = c.in-Some.ensures in
    piece_long us c.split_front.new.room (spelling_units c.loop-count.rest) (spelling_units c.in-Some.after) c.loop-count.done c.in-Some.count c.loop-count.invariant.left p.most p.split

pub copy_lanes-requires-clause-short : goal.copy_lanes-requires-clause-short
copy_lanes-requires-clause-short g c = let us : List ℕ = spelling_units c.args.source.now in let p = c.in-Some.ensures in let i = c.loop-count.invariant in
    let n = piece_within us c.split_front.new.room (spelling_units c.loop-count.rest) (spelling_units c.in-Some.after) c.loop-count.done c.in-Some.count i.left p.most p.split i.within in omega arith

pub copy_lanes-requires-clause-own : goal.copy_lanes-requires-clause-own
copy_lanes-requires-clause-own g c o lo hi = let us : List ℕ = spelling_units c.args.source.now in let p = c.in-Some.ensures in let i = c.loop-count.invariant in
    let n = piece_within us c.split_front.new.room (spelling_units c.loop-count.rest) (spelling_units c.in-Some.after) c.loop-count.done c.in-Some.count i.left p.most p.split i.within in
    i.writes.own_words (c.args.to.start + o / lane_count c.args.to.wide) (c.requires.own o (omega arith))

pub copy_lanes-requires-clause-fits : goal.copy_lanes-requires-clause-fits
copy_lanes-requires-clause-fits g c e k l = let us : List ℕ = spelling_units c.args.source.now in let p = c.in-Some.ensures in let i = c.loop-count.invariant in
    let n = piece_within us c.split_front.new.room (spelling_units c.loop-count.rest) (spelling_units c.in-Some.after) c.loop-count.done c.in-Some.count i.left p.most p.split i.within in
    let is = piece_unit us c.split_front.new.room (spelling_units c.loop-count.rest) (spelling_units c.in-Some.after) c.loop-count.done c.in-Some.count i.left p.most p.split k l in
    let small = c.requires.fits e (c.loop-count.done + k) (omega arith) in omega arith

pub loop-count-smaller : goal.loop-count-smaller
loop-count-smaller g c = let p = c.in-Some.ensures in
    let k : length (spelling_units c.in-Some.after) < length (spelling_units c.loop-count.rest) = fewer_left c.split_front.new.room
    (spelling_units c.loop-count.rest) (spelling_units c.in-Some.after) c.in-Some.count p.some p.most p.split in k

pub loop-count-preserved : goal.loop-count-preserved
loop-count-preserved g c = let v : View = c.args.reader.now.agent.seat.me.0 in let u : View = c.loop-count.reader.agent.seat.me.0 in let w : View = c.copy_lanes.new.self.agent.seat.me.0 in
    let us : List ℕ = spelling_units c.args.source.now in let p = c.in-Some.ensures in let i = c.loop-count.invariant in
    let e = c.copy_lanes.ensures in let done = c.loop-count.done in let count = c.in-Some.count in
    let room = c.split_front.new.room in let vs : List ℕ = spelling_units c.loop-count.rest in
    let ws : List ℕ = spelling_units c.in-Some.after in let wide = c.args.to.wide in let start = c.args.to.start in
    let next : IsFilled wide start (own_word u.own_words) (own_word w.own_words) (0 + done) count (λ k. get_or us (done + k) 0) = filled_as
    wide start (own_word u.own_words) (own_word w.own_words) done count (λ k. get_or (take count room) k 0) (λ k. get_or us (done + k) 0)
    (piece_unit us room vs ws done count i.left p.most p.split) e.filled in record {
      long = c.split_front.auto.room ∙ i.long;
      heap = e.writes.heap ∙ i.heap;
      writes = writes_trans v u w i.writes e.writes.view;
      below = λ q y l h. e.below q y l (i.below q y l h);
      above = λ q y l h. let more = words_more wide (done + count) (length us)
          (piece_within us room vs ws done count i.left p.most p.split i.within) in e.above q y (omega (arith, l, more)) (i.above q y l h);
      forms = forms_trans v u w i.forms e.forms;
      filled = filled_on wide start (own_word v.own_words) (own_word u.own_words) (own_word w.own_words) 0 done count (λ k. get_or us k 0) i.filled next;
      within = piece_within us room vs ws done count i.left p.most p.split i.within;
      read = p.read;
      left = piece_left us room vs ws done count i.left p.most p.split;
    }

pub returns : goal.returns
returns g c = let v : View = c.args.reader.now.agent.seat.me.0 in let u : View = c.loop-count.reader.agent.seat.me.0 in
    let us : List ℕ = spelling_units c.args.source.now in let i = c.loop-count.invariant in record {
      writes = record { heap = i.heap; view = i.writes };
      below = i.below;
      above = i.above;
      forms = i.forms;
      filled = subst (λ (n : ℕ). IsFilled c.args.to.wide c.args.to.start (own_word v.own_words) (own_word u.own_words) 0 n (λ k. get_or us k 0))
          (all_done us (spelling_units c.loop-count.rest) c.loop-count.done i.left c.in_default.ensures i.within) i.filled;
    }
