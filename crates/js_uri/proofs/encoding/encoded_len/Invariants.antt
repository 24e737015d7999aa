use Rattle.std.proofs.Common.{◌≡◌, ◌+◌, ◌-◌, ◌*◌, ◌≤◌, length}
use Rattle.js_uri.specs.Outcome.{measure}
use Rattle.js_uri.specs.Calls.{keep_of}
use Rattle.js_uri.specs.Encoding.{encoded}
use Rattle.js_uri.proofs.Outcomes.{counted}
use Rattle.js_uri.proofs.encoding.encoded_len.Given as goal

abbrev pub invariant-loop-point : goal.invariant-loop-point
invariant-loop-point l = record {
  made : measure (encoded l.units (keep_of l.part)) ≡ counted (length l.units - length l.rest) l.len (measure (encoded l.rest (keep_of l.part)));
  most : l.len + 12 * length l.rest ≤ 12 * length l.units;
}

abbrev pub decreases-loop-point : goal.decreases-loop-point
decreases-loop-point l = length l.rest
