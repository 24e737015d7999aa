use Rattle.std.proofs.Common.{ℕ, ◌≡◌, ◌+◌, ◌-◌, ◌*◌, ◌<◌, ◌≤◌}
use Rattle.heap_rule.specs.Loads.{added_loads}
use Rattle.heap_rule.specs.Maps.{HasKey}
use Rattle.heap_read.specs.Readers.{view_in}
use Rattle.heap_text.specs.Filling.{HoldsAbove, units_at}
use Rattle.heap_read.specs.Reads.{KeepsBelow, WritesOwnWords}
use Rattle.heap_read.specs.Filling.{own_word}
use Rattle.heap_text.proofs.Progress.{IsFilling}
use Rattle.heap_text.proofs.filling.+fill.Given as goal

abbrev pub decreases-fill : goal.decreases-fill
decreases-fill g l = l.n

abbrev pub invariant-loop-left : goal.invariant-loop-left
invariant-loop-left g l = record {
  heap : l.reader.heap ≡ l.fn.reader.heap;
  writes : WritesOwnWords (view_in l.fn.reader) (view_in l.reader);
  below : KeepsBelow l.to.start (view_in l.fn.reader) (view_in l.reader);
  above : HoldsAbove (view_in l.fn.reader) (view_in l.reader) l.fn.id;
  lower : l.id ≤ l.fn.id;
  known : HasKey (view_in l.reader).units l.id;
  filling : IsFilling l.to.wide l.to.start (own_word (view_in l.fn.reader).own_words) (own_word (view_in l.reader).own_words) l.fn.at l.fn.n
      (units_at (view_in l.fn.reader) l.fn.id) l.at l.n (units_at (view_in l.reader) l.id);
  behind : l.fn.at ≤ l.at;
  loads : (k : ℕ) → 0 < k → added_loads (view_in l.reader).form_loads k ≡ added_loads (view_in l.fn.reader).form_loads (l.steps - l.fn.steps + k);
  more : l.fn.steps ≤ l.steps;
  steps : l.steps + 8 * l.n ≤ l.fn.steps + 8 * l.fn.n;
}

abbrev pub decreases-loop-left : goal.decreases-loop-left
decreases-loop-left g l = l.n
