use Rattle.std.proofs.Common.{◌≡◌, ◌++◌, length}
use Rattle.std.specs.Prelude.{IsOk}
use Rattle.js_uri.specs.Outcome.{units}
use Rattle.js_uri.specs.Calls.{keep_of}
use Rattle.js_uri.specs.Encoding.{encoded}
use Rattle.js_uri.proofs.encoding.push_encoded.Given as goal

abbrev pub invariant-loop-point : goal.invariant-loop-point
invariant-loop-point l = record {
  fine : IsOk (encoded l.rest (keep_of l.part));
  made : l.text ++ units (encoded l.rest (keep_of l.part)) ≡ l.fn.text ++ units (encoded l.units (keep_of l.part));
}

abbrev pub decreases-loop-point : goal.decreases-loop-point
decreases-loop-point l = length l.rest
