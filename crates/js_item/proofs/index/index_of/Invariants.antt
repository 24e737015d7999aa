use Rattle.std.proofs.Common.{take}
use Rattle.js_item.specs.Indexed.{IsIndexed}
use Rattle.js_item.specs.Views.{fields_of}
use Rattle.js_item.proofs.index.index_of.Given as goal

abbrev pub invariant-loop-place : goal.invariant-loop-place
invariant-loop-place g l = IsIndexed g.S.Strings.number l.index (fields_of (take l.place l.members))
