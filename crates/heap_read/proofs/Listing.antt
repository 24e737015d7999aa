-- The units of a source stay over loads.
use Rattle.std.proofs.Common.{◌≡◌, ℕ, List, [], ◌++◌, sym, refl, ap, ◌∙◌, subst, Option}
use Rattle.std.specs.Prelude.{unwrap_or}
use Rattle.heap_rule.specs.declared.view.View.{View}
use Rattle.heap_rule.specs.Births.{part}
use Rattle.heap_rule.proofs.MapLemmas.{has_key, key_of}
use Rattle.heap_table.specs.Known.{KeepsKnown}
use Rattle.heap_read.specs.declared.source.Piece.{Piece}
use Rattle.heap_read.specs.declared.source.UnitSource.{UnitSource}
use Rattle.heap_read.specs.declared.source.UnitSource.TheVariants as source
use Rattle.heap_read.specs.Reads.{HoldsForms}
use Rattle.heap_read.specs.Sources.{ShowsSource, ShowsPiece, source_units, piece_units}
use Rattle.heap_read.specs.Windows.{IsWindow}
use Rattle.heap_read.proofs.Showing.{window_kept}

piece_same : (v w : View) (p : Piece) → KeepsKnown v w → ShowsPiece v p → piece_units w p ≡ piece_units v p
piece_same v w p k h = let g = has_key v.units p.of.id h.0 in
    ap (λ (o : Option (List ℕ)). part p.from p.window.len (unwrap_or o [])) (k.units p.of.id g.0 g.1 ∙ sym g.1)

piece_kept : (v w : View) (p : Piece) → KeepsKnown v w → HoldsForms v w → ShowsPiece v p → ShowsPiece w p
piece_kept v w p k f h = let g = has_key v.units p.of.id h.0 in
    (key_of w.units p.of.id g.0 (k.units p.of.id g.0 g.1), subst (IsWindow w p.window) (sym (piece_same v w p k h)) (window_kept v w f p.window (piece_units v p) k h.1))

pub listed_same : (v w : View) (s : UnitSource) → KeepsKnown v w → ShowsSource v s → source_units w s ≡ source_units v s
listed_same v w (source.Units us) k h = refl
listed_same v w (source.Piece p) k h = piece_same v w p k h
listed_same v w (source.Pieces p q) k h = λ i. piece_same v w p k h.0 i ++ piece_same v w q k h.1 i

pub shows_kept : (v w : View) (s : UnitSource) → KeepsKnown v w → HoldsForms v w → ShowsSource v s → ShowsSource w s
shows_kept v w (source.Units us) k f h = tt
shows_kept v w (source.Piece p) k f h = piece_kept v w p k f h
shows_kept v w (source.Pieces p q) k f h = (piece_kept v w p k f h.0, piece_kept v w q k f h.1)
