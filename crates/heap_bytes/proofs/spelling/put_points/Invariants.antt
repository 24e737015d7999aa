use Rattle.std.proofs.Common.{◌≡◌, ◌≤◌, ◌++◌, length, take}
use Rattle.std.specs.Str.{chars}
use Rattle.heap_bytes.specs.Points.{IsRead, utf16}
use Rattle.heap_bytes.proofs.spelling.put_points.Given as goal

abbrev pub invariant-loop-room : goal.invariant-loop-room
invariant-loop-room l = record {
  more : l.at ≤ l.count;
  most : l.count ≤ length l.room;
  read : IsRead l.rest;
  units : take l.at l.fn.room ++ utf16 (chars l.bytes) ≡ take l.count l.room ++ utf16 (chars l.rest);
}

abbrev pub decreases-loop-room : goal.decreases-loop-room
decreases-loop-room l = length l.rest
