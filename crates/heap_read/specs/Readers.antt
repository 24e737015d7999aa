-- What contracts see of a reader.
use Rattle.std.specs.Prelude.{◌≡◌}
use Rattle.heap_rule.specs.declared.view.View.{View}
use Rattle.heap_table.specs.Agents.{view_of}
use Rattle.heap_read.specs.declared.heap_ref.HeapRef.{Ghosts}
use Rattle.heap_read.specs.declared.reader.Reader.{Reader}

module _ {H : Type 0} {g : Ghosts H} where
  -- what its agent knows
  abbrev pub view_in : Reader H g → View
  view_in r = view_of r.agent

  -- a call: the heap stays, and the view goes on as R says
  pub record MovesView (R : View → View → Type 0) (a b : Reader H g) : Type 0 where
    pub heap : b.heap ≡ a.heap
    pub view : R (view_in a) (view_in b)
