use Rattle.std.proofs.Common.{◌≡◌, ◌-◌, length, drop}
use Rattle.heap_rule.specs.Learning.{justified, learn_into}
use Rattle.heap_core_views.proofs.learning.learn.Given as goal

abbrev pub invariant-names : goal.invariant-names
invariant-names l = (learn_into (justified l.view) l.units (drop l.k l.names) ≡ learn_into (justified l.fn.view) l.fn.view.units l.names) × (l.view ≡ l.fn.view)

abbrev pub decreases-names : goal.decreases-names
decreases-names l = length l.names - l.k
