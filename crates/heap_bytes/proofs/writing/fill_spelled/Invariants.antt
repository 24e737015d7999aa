use Rattle.std.proofs.Common.{◌≡◌, ◌+◌, ◌≤◌, get_or, length, drop}
use Rattle.js_units.specs.Lanes.{words_over}
use Rattle.heap_read.specs.Filling.{IsFilled, own_word}
use Rattle.heap_read.specs.Readers.{view_in}
use Rattle.heap_read.specs.Reads.{KeepsBelow, KeepsForms, KeepsFrom, WritesOwnWords}
use Rattle.heap_bytes.specs.Spellings.{IsReadable, spelling_units}
use Rattle.heap_bytes.proofs.writing.fill_spelled.Given as goal

abbrev pub invariant-loop-count : goal.invariant-loop-count
invariant-loop-count g l = record {
  long : length l.room ≡ 65;
  heap : l.reader.heap ≡ l.fn.reader.heap;
  writes : WritesOwnWords (view_in l.fn.reader) (view_in l.reader);
  below : KeepsBelow l.to.start (view_in l.fn.reader) (view_in l.reader);
  above : KeepsFrom (l.to.start + words_over l.to.wide (length (spelling_units l.source))) (view_in l.fn.reader) (view_in l.reader);
  forms : KeepsForms (view_in l.fn.reader) (view_in l.reader);
  filled : IsFilled l.to.wide l.to.start (own_word (view_in l.fn.reader).own_words) (own_word (view_in l.reader).own_words) 0 l.done (λ k. get_or (spelling_units l.source) k 0);
  within : l.done ≤ length (spelling_units l.source);
  read : IsReadable l.rest;
  left : spelling_units l.rest ≡ drop l.done (spelling_units l.source);
}

abbrev pub decreases-loop-count : goal.decreases-loop-count
decreases-loop-count g l = length (spelling_units l.rest)
