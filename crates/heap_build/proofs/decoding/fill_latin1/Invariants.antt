use Rattle.std.proofs.Common.{◌≡◌, ◌++◌, ◌+◌, ◌≤◌, take}
use Rattle.heap_build.proofs.decoding.fill_latin1.Given as goal

abbrev pub invariant-loop-byte : goal.invariant-loop-byte
invariant-loop-byte l = record {
  added : l.units.items ≡ l.fn.units.items ++ take l.byte-index l.bytes;
  room : l.units.len + l.byte-index-end ≤ l.units.cap + l.byte-index;
  same : l.units.cap ≡ l.fn.units.cap;
}
