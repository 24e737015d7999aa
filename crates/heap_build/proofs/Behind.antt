-- Units that are read behind those of a list.
use Rattle.std.proofs.Common.{◌≡◌, ◌∙◌, ℕ, ◌+◌, ◌≤◌, List, ◌++◌, length, take, ap, ap₂, sym, arith, append_assoc, length-append}
use Rattle.std.proofs.Math.Seq.{take-append_seam}
use Rattle.std.proofs.lemmas.List.{take_all}

pub kept_front : (old more all : List ℕ) (from n : ℕ) → all ≡ take n old ++ more → length old ≤ n → from ≡ length old → take from all ≡ old
kept_front old more all from n is l at = ap (take from) is
    ∙ (ap (λ (xs : List ℕ). take from (xs ++ more)) (take_all n old l)
    ∙ (ap (λ (k : ℕ). take k (old ++ more)) at ∙ take-append_seam old more))

pub read_behind : (front out post rest old us : List ℕ) (m : ℕ) → front ≡ old → out ≡ us → m ≡ length old + length us → take m ((front ++ (out ++ post)) ++ rest) ≡ old ++ us
read_behind front out post rest old us m a b at =
    ap₂ (λ (x y : List ℕ). take m ((x ++ (y ++ post)) ++ rest)) a b
    ∙ (ap (take m) (append_assoc old (us ++ post) rest ∙ (ap (λ (xs : List ℕ). old ++ xs) (append_assoc us post rest) ∙ sym (append_assoc old us (post ++ rest))))
    ∙ (ap (λ (k : ℕ). take k ((old ++ us) ++ (post ++ rest))) (omega (arith, at, length-append old us)) ∙ take-append_seam (old ++ us) (post ++ rest)))
