use Rattle.std.proofs.Common.{◌+◌, ◌/◌, ◌≡◌, ◌∙◌, ℕ, List, length, get_or, ap, refl, subst, sym, arith}
use Rattle.std.specs.FinMap.{FinMap}
use Rattle.std.specs.Ordering.{nat_cmp}
use Rattle.js_units.specs.Lanes.{lane_count, lane_of, words_over}
use Rattle.heap_rule.specs.declared.view.View.{View}
use Rattle.heap_rule.specs.Maps.{Has, HasKey}
use Rattle.heap_read.specs.Filling.{IsFilled, own_word}
use Rattle.heap_read.specs.Reads.{KeepsFrom}
use Rattle.heap_read.specs.Sources.{ShowsSource, piece_units, source_units}
use Rattle.heap_read.specs.declared.source.UnitSource.{UnitSource}
use Rattle.heap_read.proofs.Listing.{listed_same, shows_kept}
use Rattle.heap_read.proofs.Placing.{filled_none, filled_on, filled_same}
use Rattle.heap_read.proofs.ShiftedLanes.{same_width}
use Rattle.heap_read.proofs.Showing.{forms_held, more_words, window_length}
use Rattle.heap_read.proofs.Storing.{below_reads, writes_reads, writes_refl, writes_trans}
use Rattle.heap_read.proofs.WindowLemmas.{forms_trans}
use Rattle.heap_read.proofs.reader.Reader.copy_lanes.Goals as goal

pub loop-done-init : goal.loop-done-init
loop-done-init g c = let v : View = c.args.self.now.agent.seat.me.0 in let us : List ℕ = source_units v c.args.source.now in record {
  heap = refl;
  writes = writes_refl v;
  below = λ q y l h. h;
  above = λ q y l h. h;
  forms = (refl, refl);
  shows = c.requires.shows;
  same = refl;
  filled = filled_none c.args.to.wide c.args.to.start (own_word v.own_words) c.args.at (λ k. get_or us k 0);
  within = omega arith;
}

-- a window of the same width
pub copy_window-requires-clause-window : goal.copy_window-requires-clause-window
copy_window-requires-clause-window g c = let v : View = c.args.self.now.agent.seat.me.0 in
    let s = subst (ShowsSource v) c.in-Piece.is c.requires.shows in (piece_units v c.in-Piece.piece, s.1)

pub copy_window-requires-clause-width : goal.copy_window-requires-clause-width
copy_window-requires-clause-width g c = same_width c.in-Piece.piece.window.wide c.args.to.wide c.if-piece-to.true

pub copy_window-requires-clause-short : goal.copy_window-requires-clause-short
copy_window-requires-clause-short g c = let v : View = c.args.self.now.agent.seat.me.0 in let s = subst (ShowsSource v) c.in-Piece.is c.requires.shows in
    let n : length (piece_units v c.in-Piece.piece) ≡ c.args.n = subst (λ (x : UnitSource). length (source_units v x) ≡ c.args.n) c.in-Piece.is c.requires.count in
    let l = window_length v c.in-Piece.piece.window (piece_units v c.in-Piece.piece) s.1 in omega (arith, n, l, c.requires.short)

pub copy_window-requires-clause-own : goal.copy_window-requires-clause-own
copy_window-requires-clause-own g c o a b = let v : View = c.args.self.now.agent.seat.me.0 in let s = subst (ShowsSource v) c.in-Piece.is c.requires.shows in
    let n : length (piece_units v c.in-Piece.piece) ≡ c.args.n = subst (λ (x : UnitSource). length (source_units v x) ≡ c.args.n) c.in-Piece.is c.requires.count in
    let l = window_length v c.in-Piece.piece.window (piece_units v c.in-Piece.piece) s.1 in c.requires.own o a (omega (arith, n, l, b))

pub returns-then-piece-to-clause-above : goal.returns-then-piece-to-clause-above
returns-then-piece-to-clause-above g c = let v : View = c.args.self.now.agent.seat.me.0 in let s = subst (ShowsSource v) c.in-Piece.is c.requires.shows in
    let n : length (piece_units v c.in-Piece.piece) ≡ c.args.n = subst (λ (x : UnitSource). length (source_units v x) ≡ c.args.n) c.in-Piece.is c.requires.count in
    let l = window_length v c.in-Piece.piece.window (piece_units v c.in-Piece.piece) s.1 in
    subst (λ (k : ℕ). KeepsFrom (c.args.to.start + words_over c.args.to.wide (c.args.at + k)) v c.copy_window.new.self.agent.seat.me.0) (sym l ∙ n) c.copy_window.ensures.above

pub returns-then-piece-to-clause-filled : goal.returns-then-piece-to-clause-filled
returns-then-piece-to-clause-filled g c = let v : View = c.args.self.now.agent.seat.me.0 in let x : View = c.copy_window.new.self.agent.seat.me.0 in
    let p = c.in-Piece.piece in let s = subst (ShowsSource v) c.in-Piece.is c.requires.shows in let to = c.args.to in
    let n : length (piece_units v p) ≡ c.args.n = subst (λ (x : UnitSource). length (source_units v x) ≡ c.args.n) c.in-Piece.is c.requires.count in
    let l = window_length v p.window (piece_units v p) s.1 in
    subst (λ (y : UnitSource). IsFilled to.wide to.start (own_word v.own_words) (own_word x.own_words) c.args.at c.args.n (λ k. get_or (source_units v y) k 0)) (sym c.in-Piece.is)
    (subst (λ (k : ℕ). IsFilled to.wide to.start (own_word v.own_words) (own_word x.own_words) c.args.at k (λ k. get_or (piece_units v p) k 0)) (sym l ∙ n)
    (c.copy_window.ensures.filled (piece_units v p) s.1))

-- the word of the next lane
pub put_lanes-requires-clause-own : goal.put_lanes-requires-clause-own
put_lanes-requires-clause-own g c = let o : ℕ = c.args.at + c.loop-done.done in let place : ℕ = c.args.to.start + o / lane_count c.args.to.wide in
    subst (λ (m : FinMap nat_cmp ℕ). HasKey m place) (sym c.word_of-part.ensures.reads.view.own_words)
    (c.loop-done.invariant.writes.own_words place (c.requires.own o (omega arith) (omega (arith, c.loop-done-test.true))))

pub loop-done-preserved : goal.loop-done-preserved
loop-done-preserved g c = let v : View = c.args.self.now.agent.seat.me.0 in let u : View = c.loop-done.self.agent.seat.me.0 in
    let p : View = c.word_of-part.new.self.agent.seat.me.0 in let w : View = c.put_lanes.new.self.agent.seat.me.0 in
    let i = c.loop-done.invariant in let e = c.word_of-part.ensures in let r = c.put_lanes.ensures in let wide = c.args.to.wide in
    let start = c.args.to.start in let at : ℕ = c.args.at in let done = c.loop-done.done in let count = c.min-count.result in let o : ℕ = at + done in
    let us : List ℕ = source_units v c.args.source.now in let part = c.word_of-part.result in let most = c.min-count.ensures in
    let next : IsFilled wide start (own_word u.own_words) (own_word w.own_words) o count (λ k. get_or us (done + k) 0) =
    filled_same wide start (own_word u.own_words) (own_word w.own_words) o count (lane_of wide part) (λ k. get_or us (done + k) 0)
    (subst (λ (m : FinMap nat_cmp ℕ). IsFilled wide start (own_word m) (own_word w.own_words) o count (lane_of wide part)) e.reads.view.own_words r.filled)
    (λ k l. e.word.each k l ∙ ap (λ (xs : List ℕ). get_or xs (done + k) 0) i.same) in
    let inside = more_words wide (o + count) (at + c.args.n) (omega (arith, most)) in record {
      heap = r.writes.heap ∙ (e.reads.heap ∙ i.heap);
      writes = writes_trans v u w i.writes (writes_trans u p w (writes_reads u p e.reads.view) r.writes.view);
      below = λ q y l h. r.below q y l (below_reads start u p e.reads.view q y l (i.below q y l h));
      above = λ q y l h. r.above q y (omega (arith, l, inside)) (subst (λ (m : FinMap nat_cmp ℕ). Has m q y) (sym e.reads.view.own_words) (i.above q y l h));
      forms = forms_trans v p w (forms_trans v u p i.forms e.forms) r.forms;
      shows = shows_kept p w c.args.source.now r.writes.view.known (forms_held p w r.forms.0) e.shows;
      same = listed_same p w c.args.source.now r.writes.view.known e.shows ∙ (e.listed ∙ i.same);
      filled = filled_on wide start (own_word v.own_words) (own_word u.own_words) (own_word w.own_words) at done count (λ k. get_or us k 0) i.filled next;
      within = omega arith;
    }
