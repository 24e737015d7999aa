-- The box behind the handle of a text, for the walks.
use mir.Syntax.{impl, tnil, dnil}
use mathlib.Core.List.{[]}
use Rattle.std_alloc.proofs.BoxSteps.Form.{Bx}
use Rattle.std_heap.specs.contracts.Global as Global
use Rattle.std_heap.specs.contracts.GlobalAllocator.TheImpl.{ghosts, dict}
use Rattle.std_heap.proofs.Global.TheLaws as global
use Rattle.heap_build.specs.contracts.builder.Builder as Text
use Rattle.heap_build.proofs.builder.Builder.TheLaws as text

abbrev pub Inner : Bx
Inner = record {
  row = Text.the_row;
  laws = text.the_row_laws;
  al = record { row = Global.the_row; laws = global.the_row_laws; g = ghosts; d = dict; drops = impl [] tnil dnil };
}
