use Rattle.std.proofs.Common.{◌≤◌, length}
use Rattle.js_io.specs.declared.files.TheConstants.{FILE_MAX}
use Rattle.std.specs.Io.KnownBytes.{Consumes}
use Rattle.js_io.proofs.host.read_all.Given as goal

abbrev pub invariant-loop-turn : goal.invariant-loop-turn
invariant-loop-turn g l = record {
  small : length l.bytes.items ≤ FILE_MAX;
  grown : l._turn ≤ length l.bytes.items;
  consumed : Consumes (g.S.Read.remaining l.initial.source) (g.S.Read.remaining l.source) l.bytes.items;
}
