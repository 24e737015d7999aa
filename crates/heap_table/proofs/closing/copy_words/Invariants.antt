use Rattle.std.proofs.Common.{◌≡◌, length, take}
use Rattle.std.specs.Slots.{slots_items}
use Rattle.heap_table.proofs.closing.copy_words.Given as goal

abbrev pub invariant-loop-i : goal.invariant-loop-i
invariant-loop-i l = record {
  length : length l.words ≡ length l.initial.words;
  copied : take l.i l.words ≡ take l.i (slots_items l.closed.words);
}
