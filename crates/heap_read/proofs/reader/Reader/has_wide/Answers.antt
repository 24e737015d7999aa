use Rattle.std.proofs.Common.{◌≡◌, ◌∙◌, ℕ, List, Bool, false, ◌++◌, ap, subst, sym}
use Rattle.std.specs.Prelude.{nat_lt, ◌||◌}
use Rattle.std.proofs.lemmas.List.Folds.{list_any-append}
use Rattle.js_units.specs.Lanes.{is_wide}
use Rattle.heap_rule.specs.declared.view.View.{View}
use Rattle.heap_read.specs.declared.source.UnitSource.{UnitSource}
use Rattle.heap_read.specs.Sources.{ShowsSource, source_units, piece_units}
use Rattle.heap_read.proofs.Listing.{listed_same, shows_kept}
use Rattle.heap_read.proofs.Showing.{forms_held}
use Rattle.heap_read.proofs.WindowLemmas.{window_later}
use Rattle.heap_read.proofs.reader.Reader.has_wide.Goals as goal

pub is_wide_in-requires-else-is_wide_in : goal.is_wide_in-requires-else-is_wide_in
is_wide_in-requires-else-is_wide_in g c = let v : View = c.args.self.now.agent.seat.me.0 in
    let x : View = c.is_wide_in-in-Pieces.new.self.agent.seat.me.0 in let e = c.is_wide_in-in-Pieces.ensures in let q = c.in-Pieces.back in
    let s = subst (ShowsSource v) c.in-Pieces.is c.requires.shows in (piece_units v q, window_later v x q.window (piece_units v q) e.reads.view e.forms s.1.1)

pub returns-in-Piece-clause-shows : goal.returns-in-Piece-clause-shows
returns-in-Piece-clause-shows g c = let v : View = c.args.self.now.agent.seat.me.0 in let x : View = c.is_wide_in.new.self.agent.seat.me.0 in let e = c.is_wide_in.ensures in
    shows_kept v x c.args.source.now e.reads.view.known (forms_held v x e.forms.0) c.requires.shows

pub returns-then-is_wide_in-clause-shows : goal.returns-then-is_wide_in-clause-shows
returns-then-is_wide_in-clause-shows g c = let v : View = c.args.self.now.agent.seat.me.0 in let x : View = c.is_wide_in-in-Pieces.new.self.agent.seat.me.0 in let e = c.is_wide_in-in-Pieces.ensures in
    shows_kept v x c.args.source.now e.reads.view.known (forms_held v x e.forms.0) c.requires.shows

pub returns-else-is_wide_in-clause-shows : goal.returns-else-is_wide_in-clause-shows
returns-else-is_wide_in-clause-shows g c = let v : View = c.args.self.now.agent.seat.me.0 in
    let x : View = c.is_wide_in-in-Pieces.new.self.agent.seat.me.0 in let y : View = c.is_wide_in-else-is_wide_in.new.self.agent.seat.me.0 in
    let e = c.is_wide_in-in-Pieces.ensures in let f = c.is_wide_in-else-is_wide_in.ensures in
    shows_kept x y c.args.source.now f.reads.view.known (forms_held x y f.forms.0) (shows_kept v x c.args.source.now e.reads.view.known (forms_held v x e.forms.0) c.requires.shows)

pub returns-else-is_wide_in-clause-listed : goal.returns-else-is_wide_in-clause-listed
returns-else-is_wide_in-clause-listed g c = let v : View = c.args.self.now.agent.seat.me.0 in
    let x : View = c.is_wide_in-in-Pieces.new.self.agent.seat.me.0 in let y : View = c.is_wide_in-else-is_wide_in.new.self.agent.seat.me.0 in
    let e = c.is_wide_in-in-Pieces.ensures in let f = c.is_wide_in-else-is_wide_in.ensures in
    listed_same x y c.args.source.now f.reads.view.known (shows_kept v x c.args.source.now e.reads.view.known (forms_held v x e.forms.0)
    c.requires.shows) ∙ listed_same v x c.args.source.now e.reads.view.known c.requires.shows

pub returns-else-is_wide_in-clause-wide : goal.returns-else-is_wide_in-clause-wide
returns-else-is_wide_in-clause-wide g c = let v : View = c.args.self.now.agent.seat.me.0 in
    let x : View = c.is_wide_in-in-Pieces.new.self.agent.seat.me.0 in let e = c.is_wide_in-in-Pieces.ensures in let f = c.is_wide_in-else-is_wide_in.ensures in
    let p = c.in-Pieces.front in let q = c.in-Pieces.back in let s = subst (ShowsSource v) c.in-Pieces.is c.requires.shows in let us : List ℕ = piece_units v p in let vs : List ℕ = piece_units v q in
    let front : is_wide us ≡ false = sym (e.wide us s.0.1) ∙ c.if-is_wide_in.false in
    let back = f.wide vs (window_later v x q.window vs e.reads.view e.forms s.1.1) in
    let whole : is_wide (source_units v c.args.source.now) ≡ is_wide (us ++ vs) = ap (λ (y : UnitSource). is_wide (source_units v y)) c.in-Pieces.is in
    back ∙ sym (whole ∙ (list_any-append (λ u. nat_lt 255 u) us vs ∙ ap (λ (b : Bool). b || is_wide vs) front))
