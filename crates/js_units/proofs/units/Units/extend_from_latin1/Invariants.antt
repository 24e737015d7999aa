use Rattle.std.proofs.Common.{◌≡◌, ◌++◌, ◌+◌, ◌≤◌, take}
use Rattle.js_units.proofs.units.Units.extend_from_latin1.Given as goal

abbrev pub invariant-loop-byte : goal.invariant-loop-byte
invariant-loop-byte l = record {
  added : l.self-inside.items.items ≡ l.fn.self ++ take l.byte-index l.fn.bytes;
  room : l.self-inside.items.len + l.byte-index-end ≤ l.self-inside.items.cap + l.byte-index;
  within : l.byte-index ≤ l.byte-index-end;
}
