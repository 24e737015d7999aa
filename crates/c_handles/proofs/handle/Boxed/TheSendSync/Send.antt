-- A handle may cross to another thread: its fields may, and so may what it owns, which is what a box owns, or nothing.
use base.Shift.{Keyless}
use mir.Raw.{raw}
use denote.Memory.{lone}
use denote.Param.Send.{AllSend, IsSend, owning_send, sendable, struct_send}
use denote.RawPtr.{Ptr}
use denote.Struct.Owning.{fields, shape, to}
use denote.Struct.Struct.{exits_of}
use Rattle.std.proofs.Crossing.{frees}
use Rattle.std.specs.Global.{Global}
use Rattle.std.specs.Prelude.{Option, None, Some}
use Rattle.std_alloc.proofs.SendSync.{lies, quiet}
use Rattle.std_heap.proofs.Global.TheSendSync as global
use Rattle.c_handles.specs.Owned.{handle_owns}
use Rattle.heap_agents.specs.contracts.held.Held as Held
use Rattle.c_handles.specs.contracts.handle.Boxed as agent
use Rattle.heap_agents.proofs.held.Held.TheSendSync as held

inside : (alloc : Global) (p : Ptr) (value : Option Held.the_row.Denot) → Keyless (handle_owns alloc p value)
inside alloc p (Some x) = (lies Held.the_row held.the_send p x, frees.frees alloc (raw (lone Held.the_row.mir)) p)
inside alloc p None = tt

each : AllSend (fields agent.the_type)
each = (search sendable, (global.the_field_send, tt))

pub send : IsSend agent.the_row
send = owning_send agent.the_type each (λ h. inside h.alloc h.ptr h.value)
    (λ k. quiet (to agent.the_type) (exits_of k (fields agent.the_type)) ((struct_send (shape agent.the_type) each).leaving k))
