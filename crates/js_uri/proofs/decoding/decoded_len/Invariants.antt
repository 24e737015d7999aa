use Rattle.std.proofs.Common.{◌≡◌, ◌+◌, ◌-◌, ◌*◌, ◌≤◌, length}
use Rattle.js_uri.specs.Outcome.{measure}
use Rattle.js_uri.specs.Calls.{hold_of}
use Rattle.js_uri.specs.Decoding.{decoded}
use Rattle.js_uri.proofs.Outcomes.{counted}
use Rattle.js_uri.proofs.decoding.decoded_len.Given as goal

abbrev pub invariant-loop-rest : goal.invariant-loop-rest
invariant-loop-rest l = record {
  made : measure (decoded l.units (hold_of l.part)) ≡ counted (length l.units - length l.rest) l.len (measure (decoded l.rest (hold_of l.part)));
  most : l.len + 3 * length l.rest ≤ 3 * length l.units;
}

abbrev pub decreases-loop-rest : goal.decreases-loop-rest
decreases-loop-rest l = length l.rest
