use Rattle.std.proofs.Common.{◌≡◌, length, None}
use Rattle.parse_syntax.specs.Tables.{tables_of}
use Rattle.js_parse.specs.NameFaults.{offers, proto_faults}
use Rattle.js_parse.specs.NameWalk.{found_of}
use Rattle.js_parse.proofs.proto_key.first_proto_key.Given as goal

abbrev pub invariant-loop-token : goal.invariant-loop-token
invariant-loop-token l = offers (found_of l.first) (proto_faults (tables_of l.tables) l.rest) ≡ offers None (proto_faults (tables_of l.tables) l.tokens)

abbrev pub decreases-loop-token : goal.decreases-loop-token
decreases-loop-token l = length l.rest
