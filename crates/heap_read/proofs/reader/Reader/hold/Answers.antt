use Rattle.std.proofs.Common.{◌+◌, ◌<◌, true, length, subst, sym, arith}
use Rattle.heap_rule.specs.declared.view.View.{View}
use Rattle.heap_read.specs.declared.source.UnitSource.{UnitSource}
use Rattle.heap_read.specs.Sources.{ShowsSource, source_units, piece_units}
use Rattle.heap_read.specs.Written.{HoldsUnits}
use Rattle.heap_read.proofs.Holding.{holds_back, holds_front, holds_one}
use Rattle.heap_read.proofs.Listing.{shows_kept}
use Rattle.heap_read.proofs.Showing.{forms_held, window_frozen, window_length}
use Rattle.heap_read.proofs.reader.Reader.hold.Goals as goal

pub hold_in-requires-clause-frozen : goal.hold_in-requires-clause-frozen
hold_in-requires-clause-frozen g c = let v : View = c.args.self.now.agent.seat.me.0 in
    let s = subst (ShowsSource v) c.in-Piece.is c.requires.shows in window_frozen v c.in-Piece.piece.window (piece_units v c.in-Piece.piece) s.1

pub hold_in-requires-then-i-left-clause-frozen : goal.hold_in-requires-then-i-left-clause-frozen
hold_in-requires-then-i-left-clause-frozen g c = let v : View = c.args.self.now.agent.seat.me.0 in
    let s = subst (ShowsSource v) c.in-Pieces.is c.requires.shows in window_frozen v c.in-Pieces.front.window (piece_units v c.in-Pieces.front) s.0.1

pub hold_in-held-requires-clause-frozen : goal.hold_in-held-requires-clause-frozen
hold_in-held-requires-clause-frozen g c = let v : View = c.args.self.now.agent.seat.me.0 in
    let s = subst (ShowsSource v) c.in-Pieces.is c.requires.shows in window_frozen v c.in-Pieces.back.window (piece_units v c.in-Pieces.back) s.1.1

pub returns-in-Piece-clause-shows : goal.returns-in-Piece-clause-shows
returns-in-Piece-clause-shows g c = shows_kept c.args.self.now.agent.seat.me.0 c.hold_in.new.self.agent.seat.me.0 c.args.source.now
    c.hold_in.ensures.reads.view.known (forms_held c.args.self.now.agent.seat.me.0 c.hold_in.new.self.agent.seat.me.0 c.hold_in.ensures.forms.0) c.requires.shows

pub returns-then-i-left-clause-shows : goal.returns-then-i-left-clause-shows
returns-then-i-left-clause-shows g c = shows_kept c.args.self.now.agent.seat.me.0 c.hold_in-then-i-left.new.self.agent.seat.me.0
    c.args.source.now c.hold_in-then-i-left.ensures.reads.view.known (forms_held c.args.self.now.agent.seat.me.0
    c.hold_in-then-i-left.new.self.agent.seat.me.0 c.hold_in-then-i-left.ensures.forms.0) c.requires.shows

pub returns-else-i-left-clause-shows : goal.returns-else-i-left-clause-shows
returns-else-i-left-clause-shows g c = shows_kept c.args.self.now.agent.seat.me.0 c.hold_in-held.new.self.agent.seat.me.0 c.args.source.now
    c.hold_in-held.ensures.reads.view.known (forms_held c.args.self.now.agent.seat.me.0 c.hold_in-held.new.self.agent.seat.me.0
    c.hold_in-held.ensures.forms.0) c.requires.shows

pub returns-in-Units-clause-holds : goal.returns-in-Units-clause-holds
returns-in-Units-clause-holds g c = let v : View = c.args.self.now.agent.seat.me.0 in
    let l = subst (λ (x : UnitSource). c.args.i < length (source_units v x)) c.in-Units.is c.requires.within in let e = c.unit_of.ensures in
    let f = c.from.ensures in
    subst (λ (x : UnitSource). HoldsUnits (source_units v x) (record {
      word = c.from.result;
      wide = true;
      lane = 0;
      from = c.args.i;
      count = 1;
    })) (sym c.in-Units.is) (holds_one c.in-Units.units.now c.args.i c.from.result (cc) (omega arith) l)

pub returns-then-i-left-clause-holds : goal.returns-then-i-left-clause-holds
returns-then-i-left-clause-holds g c = let v : View = c.args.self.now.agent.seat.me.0 in let p = c.in-Pieces.front in
    let q = c.in-Pieces.back in let s = subst (ShowsSource v) c.in-Pieces.is c.requires.shows in
    subst (λ (x : UnitSource). HoldsUnits (source_units v x) c.hold_in-then-i-left.result) (sym c.in-Pieces.is)
    (holds_front (piece_units v p) (piece_units v q) c.hold_in-then-i-left.result (c.hold_in-then-i-left.ensures.holds (piece_units v p) s.0.1))

pub returns-else-i-left-clause-holds : goal.returns-else-i-left-clause-holds
returns-else-i-left-clause-holds g c = let v : View = c.args.self.now.agent.seat.me.0 in let p = c.in-Pieces.front in
    let q = c.in-Pieces.back in let s = subst (ShowsSource v) c.in-Pieces.is c.requires.shows in let h = c.hold_in-held.result in
    subst (λ (x : UnitSource). HoldsUnits (source_units v x) (record { word = h.word; wide = h.wide; lane = h.lane; from = p.window.len + h.from; count = h.count })) (sym c.in-Pieces.is)
    (holds_back (piece_units v p) (piece_units v q) p.window.len h (window_length v p.window (piece_units v p) s.0.1) (c.hold_in-held.ensures.holds (piece_units v q) s.1.1))
