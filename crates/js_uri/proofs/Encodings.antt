-- Encoding, code point by code point.
use Rattle.std.proofs.Common.{◌≡◌, ℕ, ◌+◌, ◌-◌, ◌≤◌, List, [], ◌∷◌, ◌++◌, length, Bool, Some, arith, ap, sym, subst, ◌∙◌, append_assoc}
use Rattle.std.specs.Prelude.{IsOk, option_map, unwrap_or}
use Rattle.js_units.specs.Text.{points, utf16_of}
use Rattle.js_uri.specs.Outcome.{UriOutcome, measure, units}
use Rattle.js_uri.specs.Steps.{after_some}
use Rattle.js_uri.specs.Encoding.{encoded_point, encoded_points, encoded}
use Rattle.js_uri.proofs.Outcomes.{counted, counted_turn, written_rest, written_units}

pub encoded_turn : (keep : ℕ → Bool) (us vs : List ℕ) (c : ℕ) → points us ≡ c ∷ points vs → encoded us keep ≡ after_some (length (utf16_of c)) (encoded_point keep c) (encoded vs keep)
encoded_turn keep us vs c h = ap (encoded_points keep) h

-- the length, or the place, of the units ws, of which us are left
pub length_turn : (keep : ℕ → Bool) (ws us vs : List ℕ) (c n len : ℕ) → measure (encoded ws keep) ≡ counted (length ws - length us) len
    (measure (encoded us keep)) → points us ≡ c ∷ points vs → length us ≡ length (utf16_of c) + length vs → length us ≤ length ws → Some n ≡
    option_map length (encoded_point keep c) → measure (encoded ws keep) ≡ counted (length ws - length vs) (len + n) (measure (encoded vs keep))
length_turn keep ws us vs c n len h p l m e =
    let at : ℕ = length ws - length us in
    let w : ℕ = length (utf16_of c) in
    let more : at + w ≡ length ws - length vs = omega arith in
    h ∙ ap (λ r. counted at len (measure r)) (encoded_turn keep us vs c p) ∙ counted_turn (encoded_point keep c) (encoded vs keep) at w len
    n e ∙ ap (λ a. counted a (len + n) (measure (encoded vs keep))) more

pub rest_is_ok : (keep : ℕ → Bool) (us vs : List ℕ) (c : ℕ) → points us ≡ c ∷ points vs → IsOk (encoded us keep) → IsOk (encoded vs keep)
rest_is_ok keep us vs c p h = written_rest (encoded_point keep c) (encoded vs keep) (length (utf16_of c)) (subst (λ (r : UriOutcome). IsOk r) (encoded_turn keep us vs c p) h)

pub units_turn : (keep : ℕ → Bool) (t m l us vs : List ℕ) (c : ℕ) → points us ≡ c ∷ points vs → IsOk (encoded us keep) → m ≡ t ++ unwrap_or
    (encoded_point keep c) [] → t ++ units (encoded us keep) ≡ l → m ++ units (encoded vs keep) ≡ l
units_turn keep t m l us vs c p h e f =
    let turn = encoded_turn keep us vs c p in
    let split : units (encoded us keep) ≡ unwrap_or (encoded_point keep c) [] ++ units (encoded vs keep) = ap units turn ∙ written_units
    (encoded_point keep c) (encoded vs keep) (length (utf16_of c)) (subst (λ (r : UriOutcome). IsOk r) turn h) in
    ap (λ q. q ++ units (encoded vs keep)) e ∙ append_assoc t _ _ ∙ ap (λ q. t ++ q) (sym split) ∙ f
