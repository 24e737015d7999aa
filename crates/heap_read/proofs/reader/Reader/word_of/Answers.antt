use Rattle.std.proofs.Common.{◌+◌, ◌≤◌, ◌∙◌, ℕ, Bool, List, length, get_or, subst, sym, arith}
use Rattle.js_units.specs.Lanes.{lane_count}
use Rattle.heap_rule.specs.declared.view.View.{View}
use Rattle.heap_read.specs.declared.source.UnitSource.{UnitSource}
use Rattle.heap_read.specs.Shifted.{HoldsLanes}
use Rattle.heap_read.specs.Sources.{ShowsSource, piece_units, source_units}
use Rattle.heap_read.specs.Written.{HasAt, HoldsUnits}
use Rattle.heap_read.proofs.Listing.{listed_same, shows_kept}
use Rattle.heap_read.proofs.Loaded.{reads_trans}
use Rattle.heap_read.proofs.Showing.{forms_held, window_length}
use Rattle.heap_read.proofs.ShiftedLanes.{lanes_on, same_width}
use Rattle.heap_read.proofs.WindowLemmas.{forms_trans}
use Rattle.heap_read.proofs.reader.Reader.word_of.Goals as goal

-- a window of the same width
pub part_of-requires-clause-window : goal.part_of-requires-clause-window
part_of-requires-clause-window g c = let v : View = c.args.self.now.agent.seat.me.0 in
    let s = subst (ShowsSource v) c.in-Piece.is c.requires.shows in (piece_units v c.in-Piece.piece, s.1)

pub part_of-requires-clause-within : goal.part_of-requires-clause-within
part_of-requires-clause-within g c = let v : View = c.args.self.now.agent.seat.me.0 in let s = subst (ShowsSource v) c.in-Piece.is c.requires.shows in
    let l = subst (λ (x : UnitSource). c.args.first + c.args.count ≤ length (source_units v x)) c.in-Piece.is c.requires.within in
    let n = window_length v c.in-Piece.piece.window (piece_units v c.in-Piece.piece) s.1 in omega (arith, l, n)

pub part_of-requires-clause-room : goal.part_of-requires-clause-room
part_of-requires-clause-room g c = subst (λ (b : Bool). c.args.count ≤ lane_count b) (sym (same_width c.in-Piece.piece.window.wide c.args.wide c.if-piece-wide.true)) c.requires.room

pub returns-then-piece-wide-clause-shows : goal.returns-then-piece-wide-clause-shows
returns-then-piece-wide-clause-shows g c = let v : View = c.args.self.now.agent.seat.me.0 in let x : View = c.part_of.new.self.agent.seat.me.0 in
    shows_kept v x c.args.source.now c.part_of.ensures.reads.view.known (forms_held v x c.part_of.ensures.forms.0) c.requires.shows

pub returns-then-piece-wide-clause-listed : goal.returns-then-piece-wide-clause-listed
returns-then-piece-wide-clause-listed g c = let v : View = c.args.self.now.agent.seat.me.0 in let x : View = c.part_of.new.self.agent.seat.me.0 in
    listed_same v x c.args.source.now c.part_of.ensures.reads.view.known c.requires.shows

pub returns-then-piece-wide-clause-word : goal.returns-then-piece-wide-clause-word
returns-then-piece-wide-clause-word g c = let v : View = c.args.self.now.agent.seat.me.0 in let p = c.in-Piece.piece in let s = subst (ShowsSource v) c.in-Piece.is c.requires.shows in
    subst (λ (x : UnitSource). HoldsLanes c.args.wide c.part_of.result c.args.count (λ k. get_or (source_units v x) (c.args.first + k) 0)) (sym c.in-Piece.is)
    (subst (λ (b : Bool). HoldsLanes b c.part_of.result c.args.count (λ k. get_or (piece_units v p) (c.args.first + k) 0)) (same_width p.window.wide c.args.wide c.if-piece-wide.true)
    (c.part_of.ensures.word (piece_units v p) s.1))

pub loop-done-preserved : goal.loop-done-preserved
loop-done-preserved g c = let v : View = c.args.self.now.agent.seat.me.0 in let u : View = c.loop-done.self.agent.seat.me.0 in
    let x : View = c.hold-held.new.self.agent.seat.me.0 in let us : List ℕ = source_units v c.args.source.now in
    let done = c.loop-done.done in let more = c.min-more.result in let i : ℕ = c.args.first + done in let held = c.hold-held.result in
    let s = c.loop-done.invariant in let e = c.hold-held.ensures in let has = e.has in
    let holds : HoldsUnits us held = subst (λ (xs : List ℕ). HoldsUnits xs held) s.same e.holds in
    let most = c.min-more.ensures in let left = c.count_from.ensures in let test = c.loop-done-test.true in
    let at : HasAt held i more = record { lanes = holds.lanes; low = has.0; high = omega arith } in record {
      most = omega arith;
      heap = e.reads.heap ∙ s.heap;
      reads = reads_trans v u x s.reads e.reads.view;
      forms = forms_trans v u x s.forms e.forms;
      shows = e.shows;
      same = e.listed ∙ s.same;
      word = lanes_on c.args.wide us c.args.first done more c.loop-done.word c.part-part.result c.put_above-word.result held i (omega arith) holds at s.word c.part-part.ensures
          (c.put_above-word.ensures.small more c.part-part.ensures.small) c.put_above-word.ensures.below c.put_above-word.ensures.above;
    }
