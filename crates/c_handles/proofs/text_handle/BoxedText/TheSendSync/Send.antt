-- A handle may cross to another thread: its fields may, and so may what it owns, which is what a box owns, or nothing.
use base.Shift.{Keyless}
use mir.Raw.{raw}
use denote.Memory.{lone}
use denote.Param.Send.{AllSend, IsSend, owning_send, sendable, struct_send}
use denote.RawPtr.{Ptr}
use denote.Struct.Owning.{fields, shape, to}
use denote.Struct.Struct.{exits_of}
use Rattle.std.proofs.Crossing.{frees}
use Rattle.std.specs.Global.{Global}
use Rattle.std.specs.Prelude.{Option, None, Some}
use Rattle.std_alloc.proofs.SendSync.{lies, quiet}
use Rattle.std_heap.proofs.Global.TheSendSync as global
use Rattle.c_handles.specs.OwnedText.{text_owns}
use Rattle.heap_build.specs.contracts.builder.Builder as Text
use Rattle.c_handles.specs.contracts.text_handle.BoxedText as agent
use Rattle.heap_build.proofs.builder.Builder.TheSendSync as text

inside : (alloc : Global) (p : Ptr) (value : Option Text.the_row.Denot) → Keyless (text_owns alloc p value)
inside alloc p (Some x) = (lies Text.the_row text.the_send p x, frees.frees alloc (raw (lone Text.the_row.mir)) p)
inside alloc p None = tt

each : AllSend (fields agent.the_type)
each = (search sendable, (global.the_field_send, tt))

pub send : IsSend agent.the_row
send = owning_send agent.the_type each (λ h. inside h.alloc h.ptr h.value)
    (λ k. quiet (to agent.the_type) (exits_of k (fields agent.the_type)) ((struct_send (shape agent.the_type) each).leaving k))
