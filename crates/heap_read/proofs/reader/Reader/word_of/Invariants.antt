use Rattle.std.proofs.Common.{◌≡◌, ◌-◌, ◌+◌, ◌≤◌, get_or}
use Rattle.heap_read.specs.Readers.{view_in}
use Rattle.heap_read.specs.Reads.{KeepsForms, OnlyLoads}
use Rattle.heap_read.specs.Shifted.{HoldsLanes}
use Rattle.heap_read.specs.Sources.{ShowsSource, source_units}
use Rattle.heap_read.proofs.reader.Reader.word_of.Given as goal

abbrev pub invariant-loop-done : goal.invariant-loop-done
invariant-loop-done g l = record {
  most : l.done ≤ l.count;
  heap : l.self.heap ≡ l.fn.self.heap;
  reads : OnlyLoads (view_in l.fn.self) (view_in l.self);
  forms : KeepsForms (view_in l.fn.self) (view_in l.self);
  shows : ShowsSource (view_in l.self) l.source;
  same : source_units (view_in l.self) l.source ≡ source_units (view_in l.fn.self) l.source;
  word : HoldsLanes l.wide l.word l.done (λ k. get_or (source_units (view_in l.fn.self) l.source) (l.first + k) 0);
}

abbrev pub decreases-loop-done : goal.decreases-loop-done
decreases-loop-done g l = l.count - l.done
