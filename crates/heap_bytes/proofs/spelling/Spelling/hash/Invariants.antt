use Rattle.std.proofs.Common.{◌≡◌, ◌^◌, ◌<◌, length}
use Rattle.js_units.specs.Lanes.{hash_from, hash_of}
use Rattle.heap_bytes.specs.Spellings.{IsReadable, spelling_units}
use Rattle.heap_bytes.proofs.spelling.Spelling.hash.Given as goal

abbrev pub invariant-loop-count : goal.invariant-loop-count
invariant-loop-count l = record {
  long : length l.room ≡ 65;
  small : l.hash < 2 ^ 32;
  read : IsReadable l.rest;
  hashed : hash_from l.hash (spelling_units l.rest) ≡ hash_of (spelling_units l.self);
}

abbrev pub decreases-loop-count : goal.decreases-loop-count
decreases-loop-count l = length (spelling_units l.rest)
