-- A number by its decimal text.
use Rattle.std.proofs.Common.{rules, ◌≡◌, inl, inr, ℕ, ◌<◌, ◌^◌, Bool, true, false, List, sym, ap, ◌∙◌, subst, arith, Option, Some, None}
use Rattle.std.specs.Prelude.{bytes_eq, decimal, nat_lt, ◌&&◌}
use Rattle.std.specs.Str.Parse.{digits_value}
use Rattle.std.proofs.lemmas.Bool.{cond-true, cond-false, and_from, and_parts, ltb-true}
use Rattle.std.proofs.lemmas.Fmt.{decimal_is_IsNumeral}
use Rattle.std.proofs.lemmas.Slice.Eq.{bytes_eq-Decides}
use Rattle.heap_schedule.specs.Fields.{decimal_number}
use Rattle.heap_schedule.proofs.Pieces.{by_bool}

is_below : (n : ℕ) → n < 2 ^ 64 → nat_lt n (2 ^ 64) ≡ true
is_below n h = search rules

pub number_some : (bs : List ℕ) (n : ℕ) → n < 2 ^ 64 → bs ≡ decimal n → decimal_number bs ≡ Some n
number_some bs n h is =
    let v = digits_value 10 bs in
    let e : v ≡ n = ap (digits_value 10) is ∙ (decimal_is_IsNumeral n h).1 in
    let below : v < 2 ^ 64 = subst (λ m. m < 2 ^ 64) (sym e) h in
    cond-true _ _ _ (and_from _ _ (is_below v below) ((bytes_eq-Decides bs (decimal v)).1 (is ∙ ap decimal (sym e)))) ∙ ap Some e

pub number_none : (bs : List ℕ) → ((n : ℕ) → n < 2 ^ 64 → bs ≡ decimal n → ⊥) → decimal_number bs ≡ None
number_none bs none =
    let v = digits_value 10 bs in
    elim (by_bool (nat_lt v (2 ^ 64) && bytes_eq bs (decimal v))) [
      | inl t ↦ (let both = and_parts _ _ t in absurd (none v (ltb-true _ _ both.0) ((bytes_eq-Decides bs (decimal v)).0 both.1)))
      | inr f ↦ cond-false _ _ _ f
    ]
