-- The lanes of a span, as a list.
use Rattle.std.proofs.Common.{◌≡◌, ℕ, suc, ◌+◌, ◌<◌, Bool, List, [], ◌∷◌, length, get_or, sym, refl, ap, ◌∙◌, arith}
use Rattle.heap_rule.specs.Contents.{span, lane_in}

-- lanes that are the units of a list are the list
pub span_all : (f : ℕ → ℕ) (wide : Bool) (start o : ℕ) (us : List ℕ) → ((k : ℕ) → k < length us → lane_in f wide start (o + k) ≡ get_or us k 0) → span f wide start o (length us) ≡ us
span_all f wide start o [] h = refl
span_all f wide start o (u ∷ us) h = let here : o + 0 ≡ o = omega arith in
    (λ i. (ap (lane_in f wide start) (sym here) ∙ h 0 (omega arith)) i ∷ span f wide start (suc o) (length us))
    ∙ ap (λ (l : List ℕ). u ∷ l) (span_all f wide start (suc o) us (λ k l. let there : suc o + k ≡ o + suc k = omega arith in ap (lane_in f wide start) there ∙ h (suc k) (omega arith)))
