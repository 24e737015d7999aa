-- A whole list, read from its front.
use Rattle.std.proofs.Common.{◌≡◌, ◌∙◌, ℕ, ◌+◌, ◌-◌, List, length, take, subst, arith}
use Rattle.std.proofs.lemmas.List.{take_all}
use Rattle.std.specs.Prelude.{slice_range}

pub read_whole : (us into : List ℕ) (n : ℕ) → length us ≡ n → into ≡ slice_range us 0 (0 + n) → into ≡ us
read_whole us into n e read = read ∙ subst (λ m. take m us ≡ us) (let d : n ≡ 0 + n - 0 = omega arith in d) (take_all n us (omega (arith, e)))
