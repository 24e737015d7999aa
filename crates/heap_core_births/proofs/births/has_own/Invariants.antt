use Rattle.std.proofs.Common.{◌≡◌, ◌+◌, ◌≤◌, ◌<◌, ℕ}
use Rattle.heap_rule.specs.Maps.{HasKey}
use Rattle.heap_core_births.proofs.births.has_own.Given as goal

abbrev pub invariant-words : goal.invariant-words
invariant-words l = ((c : ℕ) → l.from ≤ c → c < l.at → HasKey l.view.own_words c) × (l.at + l.left ≡ l.from + l.n) × (l.from ≤ l.at)

abbrev pub decreases-words : goal.decreases-words
decreases-words l = l.left
