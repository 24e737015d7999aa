-- A list read in runs.
use Rattle.std.proofs.Common.{◌≡◌, ℕ, ◌+◌, ◌-◌, ◌++◌, List, take, drop, take-add, ap, sym, ◌∙◌, arith}
use Rattle.std.specs.Prelude.{slice_range}

-- the n units behind the first d make them d + n
pub take_run : (u : List ℕ) (d n : ℕ) → take d u ++ slice_range u d (d + n) ≡ take (d + n) u
take_run u d n =
    let e : d + n - d ≡ n = omega arith in
    ap (λ m. take d u ++ take m (drop d u)) e ∙ sym (take-add d n u)
