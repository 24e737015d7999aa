-- What is known of a string.
use Rattle.std.proofs.Common.{◌≡◌, ℕ, List, sym, ◌∙◌, Some}
use Rattle.std.specs.Ordering.{nat_cmp}
use Rattle.std.specs.FinMap.{FinMap}
use Rattle.heap_rule.specs.Maps.{Has}

-- a string has one list of units
pub one_list : (m : FinMap nat_cmp (List ℕ)) (i : ℕ) (us ws : List ℕ) → Has m i us → Has m i ws → us ≡ ws
one_list m i us ws a b = let e : Some us ≡ Some ws = sym a ∙ b in cc
