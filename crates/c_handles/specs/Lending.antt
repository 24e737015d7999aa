-- What a handle ends as whose agent was lent.
use Rattle.std.specs.Borrow.{Fml, Lends, MutBor}
use Rattle.std.specs.Prelude.{Some}
use Rattle.heap_agents.specs.declared.held.Held.{Held}
use Rattle.heap_agents.specs.contracts.held.Held as Inside
use Rattle.c_handles.specs.declared.agent.JsAgent.{JsAgent}
use Rattle.c_handles.specs.declared.handle.Boxed.{Boxed}
use Rattle.c_handles.specs.contracts.agent.JsAgent as Handle
use Rattle.c_handles.specs.contracts.handle.Boxed as Pointer

-- the pointer, with x there
abbrev pub with_held : Boxed → Held → Boxed
with_held h x = record { ptr = h.ptr; alloc = h.alloc; value = Some x }

-- the handle, with x behind it
abbrev pub with_agent : JsAgent → Held → JsAgent
with_agent h x = record { at = with_held h.at x; live = 1 }

-- each ends with the last value behind r
abbrev pub LendsHeld : MutBor Boxed → MutBor Held → Fml
LendsHeld h r = Lends Pointer.the_row Inside.the_row h r (with_held h.now)

abbrev pub LendsAgent : MutBor JsAgent → MutBor Held → Fml
LendsAgent h r = Lends Handle.the_row Inside.the_row h r (with_agent h.now)
