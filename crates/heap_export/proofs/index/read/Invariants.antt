use Rattle.std.proofs.Common.{◌≡◌, ◌<◌, ◌^◌, true, drop}
use Rattle.std.specs.Str.{all_ascii_digits}
use Rattle.heap_export.specs.Digits.{read_on}
use Rattle.heap_export.proofs.index.read.Given as goal

abbrev pub invariant-loop-unit : goal.invariant-loop-unit
invariant-loop-unit l = record {
  read : read_on l.value (drop l.unit-index l.units) ≡ read_on 0 l.units;
  digits : all_ascii_digits (drop l.unit-index l.units) ≡ true;
  small : l.value < 10 ^ l.unit-index;
}
