use Rattle.heap_bytes.proofs.Reading.{reads_again}
use Rattle.heap_build.proofs.builder.Builder.push_measured.Goals as goal

pub fill_points-requires-clause-read : goal.fill_points-requires-clause-read
fill_points-requires-clause-read c = reads_again c.args.encoding c.args.bytes.now c.requires.0
