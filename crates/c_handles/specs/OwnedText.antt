-- What the handle of a text owns: where it has a value, the same as a `Box<Builder>`, and else nothing.
use base.Fml.{Fml, ftrue}
use base.Stored.{Coded}
use denote.RawPtr.{Ptr}
use Rattle.std.specs.Coded.{coded_option}
use Rattle.std.specs.Box.Ownership.{box_owns}
use Rattle.std.specs.Global.{Global}
use Rattle.std.specs.Prelude.{Option, None, Some}
use Rattle.std_heap.specs.contracts.GlobalAllocator.TheImpl.{ghosts}
use Rattle.heap_build.specs.contracts.builder.Builder.{the_row}

abbrev pub text_owns : Global → Ptr → Option the_row.Denot → Fml
text_owns alloc p None = ftrue
text_owns alloc p (Some x) = box_owns (ghosts.dealloc_token alloc) the_row p x

abbrev pub text_coded : Coded (Option the_row.Denot)
text_coded = coded_option the_row.coded
