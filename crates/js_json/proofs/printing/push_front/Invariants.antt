use Rattle.std.proofs.Common.{◌≡◌, ◌+◌, ◌<◌, ◌++◌, take, length, All}
use Rattle.js_json.proofs.printing.push_front.Given as goal

abbrev pub invariant-loop-i : goal.invariant-loop-i
invariant-loop-i l = record {
  ascii : All (λ u. u < 0x80) (take l.i l.units);
  added : l.line.items ≡ l.fn.line.items ++ take l.i l.units;
  kept : take (length l.fn.line.items) l.line.items ≡ l.fn.line.items;
  len : l.line.len ≡ l.fn.line.len + l.i;
  cap : l.line.cap ≡ l.fn.line.cap;
}
