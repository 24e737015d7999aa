use Rattle.std.proofs.Common.{◌≡◌, ◌+◌, drop}
use Rattle.std.specs.List.{prefix_len}
use Rattle.js_literal.specs.Reader.{is_plain}
use Rattle.js_literal.proofs.front.plain_len.Given as goal

abbrev pub invariant-loop-i : goal.invariant-loop-i
invariant-loop-i l = l.i + prefix_len (is_plain l.quote) (drop l.i l.bytes) ≡ prefix_len (is_plain l.quote) l.bytes
