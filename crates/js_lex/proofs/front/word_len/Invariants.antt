use Rattle.std.proofs.Common.{◌≡◌, ◌+◌, drop}
use Rattle.std.specs.List.{prefix_len}
use Rattle.js_lex.specs.Elements.{is_word_part}
use Rattle.js_lex.proofs.front.word_len.Given as goal

abbrev pub invariant-loop-i : goal.invariant-loop-i
invariant-loop-i l = l.i + prefix_len is_word_part (drop l.i l.bytes) ≡ prefix_len is_word_part l.bytes
