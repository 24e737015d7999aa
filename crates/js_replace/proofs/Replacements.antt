-- All matches are so many that one more place than there are units is enough.
use Rattle.std.proofs.Common.{arith, ◌≡◌, ℕ, suc, ◌+◌, List, length, ap}
use Rattle.js_replace.specs.Matches.{first_matches, matches}
use Rattle.js_replace.specs.Replaced.{replaced_at, replaced_all}

pub all_is : (u w t : List ℕ) (n : ℕ) → n ≡ length u + 1 → replaced_at u w t 0 (first_matches n u w 0) ≡ replaced_all u w t
unfolding matches
all_is u w t n e = let m : n ≡ suc (length u) = omega (arith, e) in ap (λ k. replaced_at u w t 0 (first_matches k u w 0)) m
