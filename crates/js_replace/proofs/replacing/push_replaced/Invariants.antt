use Rattle.std.proofs.Common.{◌≡◌, ◌++◌, length, drop}
use Rattle.js_replace.specs.Matches.{InOrder}
use Rattle.js_replace.specs.Replaced.{replaced_at}
use Rattle.js_replace.proofs.replacing.push_replaced.Given as goal

-- the text so far, and what is left of it
abbrev pub invariant-loop-at : goal.invariant-loop-at
invariant-loop-at l = record {
  made : l.text ++ replaced_at l.s l.w l.template l.from (drop l.at-index l.places) ≡ l.fn.text ++ replaced_at l.s l.w l.template 0 l.places;
  order : InOrder (length l.s) (length l.w) l.from (drop l.at-index l.places);
}
