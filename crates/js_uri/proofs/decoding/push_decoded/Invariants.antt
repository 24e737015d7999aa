use Rattle.std.proofs.Common.{◌≡◌, ◌++◌, length}
use Rattle.std.specs.Prelude.{IsOk}
use Rattle.js_uri.specs.Outcome.{units}
use Rattle.js_uri.specs.Calls.{hold_of}
use Rattle.js_uri.specs.Decoding.{decoded}
use Rattle.js_uri.proofs.decoding.push_decoded.Given as goal

abbrev pub invariant-loop-piece : goal.invariant-loop-piece
invariant-loop-piece l = record {
  fine : IsOk (decoded l.rest (hold_of l.part));
  made : l.text ++ units (decoded l.rest (hold_of l.part)) ≡ l.fn.text ++ units (decoded l.units (hold_of l.part));
}

abbrev pub decreases-loop-piece : goal.decreases-loop-piece
decreases-loop-piece l = length l.rest
