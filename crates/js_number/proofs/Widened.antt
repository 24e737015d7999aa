-- Copying a list place by place.
use Rattle.std.proofs.Common.{◌≡◌, ℕ, ◌+◌, ◌<◌, List, [], ◌∷◌, ◌++◌, length, take, get_or, sym, ap, ◌∙◌, add-one}
use Rattle.std.specs.Prelude.{slice_set}
use Rattle.std.proofs.lemmas.List.{take_more_set}
use Rattle.std.proofs.Math.Seq.{take-suc}

pub next_unit : (w b : List ℕ) (i x : ℕ) → i < length w → i < length b → x ≡ get_or b i 0 → take i w ≡ take i b → take (i + 1) (slice_set w i x) ≡ take (i + 1) b
next_unit w b i x h k e s =
    let p : take (i + 1) b ≡ take i b ++ get_or b i 0 ∷ [] = ap (λ j. take j b) (add-one i) ∙ take-suc b i 0 k in
    take_more_set w i x h ∙ (ap (λ l. l ++ x ∷ []) s ∙ ap (λ y. take i b ++ y ∷ []) e) ∙ sym p
