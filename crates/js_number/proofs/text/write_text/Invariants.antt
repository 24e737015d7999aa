use Rattle.std.proofs.Common.{◌≡◌, take, length}
use Rattle.js_number.proofs.text.write_text.Given as goal

abbrev pub invariant-loop-i : goal.invariant-loop-i
invariant-loop-i l = record { same : take l.i l.room ≡ take l.i l.bytes; long : length l.room ≡ length l.fn.room }
