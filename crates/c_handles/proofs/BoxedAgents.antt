-- The box behind the handle of an agent, for the walks.
use mir.Syntax.{impl, tnil, dnil}
use mathlib.Core.List.{[]}
use Rattle.std_alloc.proofs.BoxSteps.Form.{Bx}
use Rattle.std_heap.specs.contracts.Global as Global
use Rattle.std_heap.specs.contracts.GlobalAllocator.TheImpl.{ghosts, dict}
use Rattle.std_heap.proofs.Global.TheLaws as global
use Rattle.heap_agents.specs.contracts.held.Held as Held
use Rattle.heap_agents.proofs.held.Held.TheLaws as held

abbrev pub Inner : Bx
Inner = record {
  row = Held.the_row;
  laws = held.the_row_laws;
  al = record { row = Global.the_row; laws = global.the_row_laws; g = ghosts; d = dict; drops = impl [] tnil dnil };
}
