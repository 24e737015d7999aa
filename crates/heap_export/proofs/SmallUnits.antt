-- Units that were read at once, up to the first that is greater than a bound.
use Rattle.std.proofs.Common.{◌≡◌, ℕ, ◌+◌, ◌-◌, ◌%◌, ◌^◌, ◌<◌, ◌≤◌, Bool, false, cond, List, ◌++◌, length, map, drop, get_or, get_or-take, get_or-drop, sym, ap, ◌∙◌, arith}
use Rattle.std.specs.Prelude.{nat_lt, not, replicate, slice_range}
use Rattle.std.specs.List.{prefix_len}
use Rattle.std.specs.Simd.Lanes.{chunk, mask_l, top, zip2}
use Rattle.std.proofs.lemmas.Bool.Decides.{nat_tests}
use Rattle.std.proofs.lemmas.List.{get_or_append_left, length-map}
use Rattle.std.proofs.lemmas.Simd.{length-chunk, mask_l-mod, none_from_empty_mask, run_in_chunk_fails, tops_compared, trailing_mask_l, zip2_splat_left}
use mir.Syntax.{w16}
use mir.Val.{bits, hbits}
use lib.Count.{count_trailing_zeros}

module _ (most : ℕ) where
  abbrev other : ℕ → Bool
  other x = nat_lt most x

  is_small : (x : ℕ) → other x ≡ false → x ≤ most
  is_small x h = grind (arith, nat_tests, h)

  -- the bits of those over the bound
  abbrev pub marks : List ℕ → ℕ
  marks us = mask_l (map (top (hbits w16)) (zip2 (λ (a b : ℕ). cond (nat_lt a b) (2 ^ bits w16 - 1) 0) (replicate 64 most) us)) % 2 ^ 64

  marks_are : (us : List ℕ) → length us ≡ 64 → marks us ≡ mask_l (map other us)
  marks_are us e = ap (λ ms. mask_l ms % 2 ^ 64) (tops_compared w16 nat_lt (replicate 64 most) us ∙ zip2_splat_left nat_lt most 64 us e)
      ∙ mask_l-mod (map other us) 64 (omega (arith, length-map us other, e))

  module _ (us : List ℕ) (e : length us ≡ 64) where
    here : marks (chunk 0 64 us) ≡ mask_l (map other (chunk 0 64 us))
    here = marks_are (chunk 0 64 us) (length-chunk 0 64 us (omega (arith, e)))

    pub all_small : marks (chunk 0 64 us) ≡ 0 → (k : ℕ) → k < 64 → get_or us k 0 ≤ most
    all_small z k l = is_small (get_or us k 0) (none_from_empty_mask other us 0 64 0 (omega (arith, e)) (sym here ∙ z) k (omega arith) (omega (arith, l)))

    counted : (marks (chunk 0 64 us) ≡ 0 → ⊥) → count_trailing_zeros 64 (marks (chunk 0 64 us)) ≡ prefix_len (λ x. not (other x)) (chunk 0 64 us)
    counted some = ap (count_trailing_zeros 64) here
        ∙ trailing_mask_l other 64 (chunk 0 64 us) (omega (arith, length-chunk 0 64 us (omega (arith, e)))) (omega (arith, here, some))

    pub before_other : (marks (chunk 0 64 us) ≡ 0 → ⊥) → (k : ℕ) → k < count_trailing_zeros 64 (marks (chunk 0 64 us)) → get_or us k 0 ≤ most
    before_other some k l = is_small (get_or us k 0)
        (run_in_chunk_fails other us 0 64 (count_trailing_zeros 64 (marks (chunk 0 64 us))) 0 (omega (arith, e)) (counted some) k (omega arith) (omega (arith, l)))

-- units that were read to the front of a list
pub read_at : (us part tail : List ℕ) (i n k : ℕ) → part ≡ slice_range us i (i + n) → k < n → k < length part → get_or (part ++ tail) k 0 ≡ get_or us (i + k) 0
read_at us part tail i n k e l m =
    get_or_append_left part tail 0 k m ∙ (ap (λ (xs : List ℕ). get_or xs k 0) e
    ∙ (get_or-take (i + n - i) (drop i us) k 0 (omega (arith, l)) ∙ get_or-drop i us k 0))
