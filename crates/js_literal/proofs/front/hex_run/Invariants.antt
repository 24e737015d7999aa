use Rattle.std.proofs.Common.{◌≡◌, ◌≤◌, length, min}
use Rattle.std.specs.Str.{chars}
use denote.Shadow.{shadow}
use denote.Text.{Utf8}
use Rattle.js_literal.specs.Reader.{hex_run}
use Rattle.js_literal.proofs.front.hex_run.Given as goal

abbrev pub invariant-loop-c : goal.invariant-loop-c
invariant-loop-c l = record {
  utf8 : shadow (Utf8 l.text);
  bound : l.value ≤ 0x110000;
  value : min (hex_run l.value (chars l.text)).0 0x110000 ≡ min (hex_run l.initial.value (chars l.fn.text)).0 0x110000;
  rest : (hex_run l.value (chars l.text)).1 ≡ (hex_run l.initial.value (chars l.fn.text)).1;
}

abbrev pub decreases-loop-c : goal.decreases-loop-c
decreases-loop-c l = length (chars l.text)
