use Rattle.std.proofs.Common.{◌≡◌, ◌++◌, ◌+◌, ◌≤◌, length}
use Rattle.std.specs.Str.{chars}
use Rattle.heap_bytes.specs.Points.{IsRead}
use Rattle.heap_bytes.specs.Points.{utf16}
use Rattle.heap_build.proofs.decoding.fill_points.Given as goal

abbrev pub invariant-loop-point : goal.invariant-loop-point
invariant-loop-point l = record {
  read : IsRead l.rest;
  added : l.units.items ++ utf16 (chars l.rest) ≡ l.fn.units.items ++ utf16 (chars l.bytes);
  room : l.units.len + length (utf16 (chars l.rest)) ≤ l.units.cap;
  same : l.units.cap ≡ l.fn.units.cap;
}

abbrev pub decreases-loop-point : goal.decreases-loop-point
decreases-loop-point l = length l.rest
