-- A sink in memory.
use Rattle.std.specs.Prelude.{ℕ, ◌-◌, List, length}
use Rattle.js_io.specs.declared.mem_sink.MemSink.{MemSink}

-- all bytes that it received
abbrev pub sink_bytes : MemSink → List ℕ
sink_bytes sink = sink.bytes.items

-- how many bytes a write accepts at most
abbrev pub sink_most : MemSink → ℕ
sink_most sink = sink.most

-- how many bytes it will still accept
abbrev pub sink_left : MemSink → ℕ
sink_left sink = sink.room - length sink.bytes.items

-- how many writes have failed
abbrev pub sink_faults : MemSink → ℕ
sink_faults sink = sink.faults
