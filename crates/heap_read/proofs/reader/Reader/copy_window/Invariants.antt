use Rattle.std.proofs.Common.{◌≡◌, ℕ, ◌+◌, ◌-◌, ◌≤◌, List, get_or}
use Rattle.js_units.specs.Lanes.{words_over}
use Rattle.heap_read.specs.Filling.{IsFilled, own_word}
use Rattle.heap_read.specs.Readers.{view_in}
use Rattle.heap_read.specs.Reads.{KeepsBelow, KeepsForms, KeepsFrom, WritesOwnWords}
use Rattle.heap_read.specs.Windows.{IsWindow}
use Rattle.heap_read.proofs.reader.Reader.copy_window.Given as goal

abbrev pub invariant-loop-done : goal.invariant-loop-done
invariant-loop-done g l = record {
  heap : l.self.heap ≡ l.fn.self.heap;
  writes : WritesOwnWords (view_in l.fn.self) (view_in l.self);
  below : KeepsBelow l.to.start (view_in l.fn.self) (view_in l.self);
  above : KeepsFrom (l.to.start + words_over l.to.wide (l.at + l.w.len)) (view_in l.fn.self) (view_in l.self);
  forms : KeepsForms (view_in l.fn.self) (view_in l.self);
  window : (us : List ℕ) → IsWindow (view_in l.fn.self) l.w us → IsWindow (view_in l.self) l.w us;
  filled : (us : List ℕ) → IsWindow (view_in l.fn.self) l.w us
      → IsFilled l.to.wide l.to.start (own_word (view_in l.fn.self).own_words) (own_word (view_in l.self).own_words) l.at l.done (λ k. get_or us k 0);
  within : l.done ≤ l.w.len;
}

abbrev pub decreases-loop-done : goal.decreases-loop-done
decreases-loop-done g l = l.w.len - l.done
