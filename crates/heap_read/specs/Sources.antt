-- The units that a new string is to have.
use Rattle.std.specs.Prelude.{◌≡◌, ℕ, ◌<◌, Bool, false, List, [], ◌++◌, length, slice_index, unwrap_or}
use Rattle.std.specs.FinMap.{get}
use Rattle.heap_rule.specs.declared.view.View.{View}
use Rattle.heap_rule.specs.Births.{part}
use Rattle.heap_rule.specs.Maps.{HasKey}
use Rattle.heap_read.specs.declared.source.Piece.{Piece}
use Rattle.heap_read.specs.declared.source.UnitSource.{UnitSource}
use Rattle.heap_read.specs.declared.source.UnitSource.TheVariants as source
use Rattle.heap_read.specs.declared.heap_ref.HeapRef.{Ghosts}
use Rattle.heap_read.specs.declared.reader.Reader.{Reader}
use Rattle.heap_read.specs.Readers.{view_in}
use Rattle.heap_read.specs.Windows.{IsWindow}

abbrev pub piece_units : View → Piece → List ℕ
piece_units v p = part p.from p.window.len (unwrap_or (get v.units p.of.id) [])

abbrev pub source_units : View → UnitSource → List ℕ
source_units v (source.Units us) = us.now
source_units v (source.Piece p) = piece_units v p
source_units v (source.Pieces p q) = piece_units v p ++ piece_units v q

abbrev pub ShowsPiece : View → Piece → Type 0
ShowsPiece v p = HasKey v.units p.of.id × IsWindow v p.window (piece_units v p)

-- each window of the source shows its part
abbrev pub ShowsSource : View → UnitSource → Type 0
ShowsSource v (source.Units us) = Unit {0}
ShowsSource v (source.Piece p) = ShowsPiece v p
ShowsSource v (source.Pieces p q) = ShowsPiece v p × ShowsPiece v q

module _ {H : Type 0} {g : Ghosts H} where
  abbrev pub listed_in : Reader H g → UnitSource → List ℕ
  listed_in r s = source_units (view_in r) s

-- one-byte lanes are enough for the units, where the lanes are one-byte ones
abbrev pub FitsLanes : Bool → List ℕ → Type 0
FitsLanes wide us = wide ≡ false → (k : ℕ) → k < length us → slice_index us k < 256
