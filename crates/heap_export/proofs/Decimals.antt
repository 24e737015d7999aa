-- An array index is the decimal text of its number.
use Rattle.std.proofs.Common.{arith, rules, ◌≡◌, ℕ, zero, suc, ◌<◌, ◌≤◌, ◌^◌, Bool, true, false, Option, Some, None, List, [], ◌∷◌, length, get_or, refl, sym, ap, ◌∙◌, decimal, subst}
use Rattle.std.specs.Prelude.{◌↔◌, ◌&&◌, ◌||◌, ◌==◌, not, nat_eq, nat_le, if◌then◌else◌}
use Rattle.std.specs.Str.{all_ascii_digits}
use Rattle.std.proofs.lemmas.Bool.{and_parts, and_from}
use Rattle.std.proofs.lemmas.Bool.Decides.{nat_tests}
use Rattle.std.proofs.lemmas.Str.Parse.{IsNumeralModel, numerals_by_fold, tells_all_ascii_digits}
use Rattle.std.proofs.lemmas.Fmt.{digits_decimal, digits_value-decimal, length-decimal-le, decimal_nonempty, first_decimal, decimal_digit, decimal-digits_value}
use Rattle.heap_export.specs.Index.{IsArrayIndex}
use Rattle.heap_export.specs.Digits.{read_on, has_form, index_read}

own : IsNumeralModel (λ ds. all_ascii_digits ds ≡ true) (read_on 0)
own = numerals_by_fold (λ ds. all_ascii_digits ds ≡ true) tells_all_ascii_digits read_on (search rules)

record Form (us : List ℕ) : Type 0 where
  some : 0 < length us
  few : length us ≤ 10
  lead : get_or us 0 0 ≡ 48 → length us ≡ 1
  digits : all_ascii_digits us ≡ true

lead_of : (u k : ℕ) → (not (u == 48) || nat_eq k 0) ≡ true → u ≡ 48 → k ≡ 0
lead_of u k e h = grind (arith, nat_tests)

lead_from : (u k : ℕ) → (u ≡ 48 → suc k ≡ 1) → (not (u == 48) || nat_eq k 0) ≡ true
lead_from u zero h = grind (arith, nat_tests)
lead_from u (suc k) h = grind (arith, nat_tests)

le_of : (a b : ℕ) → nat_le a b ≡ true → a ≤ b
le_of a b e = grind (arith, nat_tests)

le_from : (a b : ℕ) → a ≤ b → nat_le a b ≡ true
le_from a b h = grind (arith, nat_tests)

form_parts : (us : List ℕ) → has_form us ≡ true → Form us
form_parts [] e = cc
form_parts (u ∷ us) e =
    let p = and_parts ((not (u == 48) || nat_eq (length us) 0) && nat_le (length us) 9) (all_ascii_digits (u ∷ us)) e in
    let q = and_parts (not (u == 48) || nat_eq (length us) 0) (nat_le (length us) 9) p.0 in
    record {
      some = omega arith;
      few = omega (arith, le_of (length us) 9 q.1);
      lead = λ h. ap suc (lead_of u (length us) q.0 h);
      digits = p.1;
    }

form_from : (us : List ℕ) → Form us → has_form us ≡ true
form_from [] f = absurd (omega (arith, f.some))
form_from (u ∷ us) f =
    and_from ((not (u == 48) || nat_eq (length us) 0) && nat_le (length us) 9) (all_ascii_digits (u ∷ us))
    (and_from (not (u == 48) || nat_eq (length us) 0) (nat_le (length us) 9) (lead_from u (length us) f.lead) (le_from (length us) 9 (omega (arith, f.few))))
    f.digits

pick : (b : Bool) (m n : ℕ) → (if b then Some m else None) ≡ Some n → (b ≡ true) × (m ≡ n)
pick true m n e = (refl, cc)
pick false m n e = cc

picked : (b : Bool) (m n : ℕ) → b ≡ true → m ≡ n → (if b then Some m else None) ≡ Some n
picked true m n e h = ap Some h
picked false m n e h = cc

index_when : (us : List ℕ) (n : ℕ) → has_form us ≡ true → read_on 0 us ≡ n → n ≤ 4294967294 → index_read us ≡ Some n
index_when us n f e l = picked (has_form us && nat_le (read_on 0 us) 4294967294) (read_on 0 us) n
    (and_from (has_form us) (nat_le (read_on 0 us) 4294967294) f (le_from (read_on 0 us) 4294967294 (omega (arith, e, l)))) e

index_only : (us : List ℕ) (n : ℕ) → index_read us ≡ Some n → (has_form us ≡ true) × (read_on 0 us ≡ n)
index_only us n e =
    let p = pick (has_form us && nat_le (read_on 0 us) 4294967294) (read_on 0 us) n e in
    ((and_parts (has_form us) (nat_le (read_on 0 us) 4294967294) p.0).0, p.1)

decimal_lead : (n : ℕ) → n < 2 ^ 64 → get_or (decimal n) 0 0 ≡ 48 → length (decimal n) ≡ 1
decimal_lead zero l e = ap length (decimal_digit 0 (omega arith))
decimal_lead (suc n) l e = absurd (omega (arith, first_decimal (suc n) (omega arith) l, e))

decimal_form : (n : ℕ) → n ≤ 4294967294 → Form (decimal n)
decimal_form n l =
    let h : n < 2 ^ 64 = omega arith in
    record {
      some = decimal_nonempty n h;
      few = length-decimal-le 10 n (omega arith) (omega arith) h;
      lead = decimal_lead n h;
      digits = digits_decimal own n h;
    }

pub index_means : (us : List ℕ) (n : ℕ) → n ≤ 4294967294 → (index_read us ≡ Some n) ↔ (us ≡ decimal n)
index_means us n l = (to, from)
  where
    to : index_read us ≡ Some n → us ≡ decimal n
    to e =
        let p = index_only us n e in
        let f = form_parts us p.0 in
        sym (ap decimal (sym p.1) ∙ decimal-digits_value own us f.digits f.some f.lead (omega (arith, p.1, l)))

    from : us ≡ decimal n → index_read us ≡ Some n
    from e =
        let P : List ℕ → Type 0 = λ q. index_read q ≡ Some n in
        subst P (sym e) (index_when (decimal n) n (form_from (decimal n) (decimal_form n l)) (digits_value-decimal own n (omega arith)) l)

-- an index is below 2 ^ 32 - 1
pub index_most : (us : List ℕ) (n : ℕ) → index_read us ≡ Some n → n ≤ 4294967294
index_most us n e =
    let p = pick (has_form us && nat_le (read_on 0 us) 4294967294) (read_on 0 us) n e in
    omega (arith, le_of (read_on 0 us) 4294967294 (and_parts (has_form us) (nat_le (read_on 0 us) 4294967294) p.0).1, p.1)

is_some : (us : List ℕ) (n : ℕ) → index_read us ≡ Some n → IsArrayIndex us (Some n)
is_some us n e = let l = index_most us n e in (l, (index_means us n l).0 e)

is_none : (us : List ℕ) → index_read us ≡ None → IsArrayIndex us None
is_none us e n l h = let f = (index_means us n l).1 h in absurd (cc)

-- what is read is the index
pub index_is : (us : List ℕ) (r : Option ℕ) → index_read us ≡ r → IsArrayIndex us r
index_is us None e = is_none us e
index_is us (Some n) e = is_some us n e

-- more than ten units are no index
pub long_is_none : (us : List ℕ) → 10 < length us → IsArrayIndex us None
long_is_none us h n l e = absurd (omega (arith, h, ap length e, length-decimal-le 10 n (omega arith) (omega arith) (omega (arith, l))))
