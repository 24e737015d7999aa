use Rattle.std.proofs.Common.{◌≡◌, ◌-◌, ◌*◌, ℕ, List, ap, subst, arith}
use Rattle.std.specs.Prelude.{min}
use Rattle.js_units.specs.Lanes.{lane_count}
use Rattle.heap_read.specs.Sources.{source_units}
use Rattle.heap_read.proofs.ShiftedLanes.{first_within, word_holds}
use Rattle.heap_read.proofs.reader.Reader.pack.Goals as goal

pub returns : goal.returns
returns g c = let wide = c.args.wide in let n = c.args.n in
    let us : List ℕ = source_units c.args.self.now.agent.seat.me.0 c.args.source.now in let lanes = c.lanes-lanes.ensures in
    let first : ℕ = c.args.at * c.lanes-lanes.result in
    let f : first ≡ c.args.at * lane_count wide = ap (λ (m : ℕ). c.args.at * m) lanes in let le = first_within wide n c.args.at c.requires.within.1 in
    let count : c.min.result ≡ min (lane_count wide) (n - first) = subst (λ (m : ℕ). c.min.result ≡ min m (n - first)) lanes c.min.ensures in let e = c.word_of.ensures in record {
      reads = e.reads;
      shows = e.shows;
      listed = e.listed;
      word = word_holds wide us c.args.at first c.min.result c.word_of.result n c.requires.count f (omega (arith, f, le)) count e.word;
      forms = e.forms;
    }
