use Rattle.std.proofs.Common.{◌≡◌, ℕ, ◌+◌, ◌*◌, ◌≤◌, List, length, drop}
use Rattle.js_replace.specs.Matches.{InOrder}
use Rattle.js_replace.specs.Replaced.{replaced_at}
use Rattle.js_replace.proofs.replacing.replaced_len.Given as goal

-- how many units were counted and how many are left
abbrev pub invariant-loop-at : goal.invariant-loop-at
invariant-loop-at l = record {
  made : (u w : List ℕ) → length u ≡ l.len → length w ≡ l.size → l.total + length (replaced_at u w l.template l.from (drop l.at-index l.places)) ≡ length (replaced_at u w l.template 0 l.places);
  order : InOrder l.len l.size l.from (drop l.at-index l.places);
  most : l.total ≤ l.at-index * 4611686018427387904;
}
