use Rattle.std.proofs.Common.{◌≡◌, ◌<◌, ◌+◌, ℕ}
use Rattle.js_units.specs.Lanes.{words_over}
use Rattle.heap_rule.specs.Maps.{HasKey}
use Rattle.heap_read.specs.Readers.{view_in}
use Rattle.heap_read.specs.Reads.{KeepsBeside, KeepsForms, WritesOwnWords}
use Rattle.heap_read.specs.Sources.{ShowsSource, source_units}
use Rattle.heap_read.specs.Written.{AreWords}
use Rattle.heap_read.proofs.reader.Reader.write_at.Given as goal

abbrev pub invariant-loop-at : goal.invariant-loop-at
invariant-loop-at g l = record {
  heap : l.self.heap ≡ l.fn.self.heap;
  writes : WritesOwnWords (view_in l.fn.self) (view_in l.self);
  forms : KeepsForms (view_in l.fn.self) (view_in l.self);
  shows : ShowsSource (view_in l.self) l.source;
  same : source_units (view_in l.self) l.source ≡ source_units (view_in l.fn.self) l.source;
  own : (q : ℕ) → q < words_over l.wide l.n → HasKey (view_in l.self).own_words (l.start + q);
  others : KeepsBeside l.start (words_over l.wide l.n) (view_in l.fn.self) (view_in l.self);
  done : AreWords (view_in l.self) l.wide l.start (source_units (view_in l.fn.self) l.source) l.at;
}
