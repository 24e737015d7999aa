use Rattle.std.proofs.Common.{◌≡◌, ◌+◌, ◌-◌, ◌≤◌}
use Rattle.js_units.specs.Lanes.{words_over}
use Rattle.heap_rule.specs.Contents.{lane_in}
use Rattle.heap_read.specs.Filling.{IsFilled, own_word}
use Rattle.heap_read.specs.Readers.{view_in}
use Rattle.heap_read.specs.Reads.{KeepsBelow, KeepsForms, KeepsFrom, WritesOwnWords}
use Rattle.heap_read.proofs.reader.Reader.repeat_by.Given as goal

abbrev pub invariant-loop-done : goal.invariant-loop-done
invariant-loop-done g l = record {
  heap : l.self.heap ≡ l.fn.self.heap;
  writes : WritesOwnWords (view_in l.fn.self) (view_in l.self);
  below : KeepsBelow l.to.start (view_in l.fn.self) (view_in l.self);
  above : KeepsFrom (l.to.start + words_over l.to.wide (l.at + l.n + l.n)) (view_in l.fn.self) (view_in l.self);
  forms : KeepsForms (view_in l.fn.self) (view_in l.self);
  filled : IsFilled l.to.wide l.to.start (own_word (view_in l.fn.self).own_words) (own_word (view_in l.self).own_words) (l.at + l.n) l.done
      (λ k. lane_in (own_word (view_in l.fn.self).own_words) l.to.wide l.to.start (l.at + k));
  within : l.done ≤ l.n;
}

abbrev pub decreases-loop-done : goal.decreases-loop-done
decreases-loop-done g l = l.n - l.done
