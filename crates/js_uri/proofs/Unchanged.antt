-- Units that stay as they are.
use Rattle.std.proofs.Common.{◌≡◌, ℕ, ◌<◌, List, [], ◌∷◌, length, Bool, true, false, Some, Ok, arith, refl, ap, ◌∙◌}
use Rattle.std.specs.Prelude.{◌&&◌, ◌||◌, ◌==◌, not, nat_lt, if◌then◌else◌}
use Rattle.std.specs.List.{list_all}
use Rattle.std.proofs.lemmas.Bool.{and_parts, and_left, or_from, not-true, ltb-true, lt-ltb, lt-leb, cond-true, cond-false}
use Rattle.js_units.specs.Text.{is_lead, is_trail, points, pair_value, utf16_of}
use Rattle.js_uri.specs.Outcome.{uri_after}
use Rattle.js_uri.specs.Steps.{after_some}
use Rattle.js_uri.specs.Encoding.{encoded_point, encoded_points, encoded}
use Rattle.js_uri.specs.Decoding.{escaped_part, escaped_byte, decoded_behind, decoded}
use Rattle.js_uri.specs.Steps.{after_part}

-- an ASCII character of the set, and a unit other than %
abbrev pub is_kept : (ℕ → Bool) → ℕ → Bool
is_kept keep u = nat_lt u 0x80 && keep u

abbrev pub is_plain : ℕ → Bool
is_plain u = not (u == 0x25)

no_lead : (u : ℕ) → u < 0x80 → is_lead u ≡ false
no_lead u h = and_left _ _ (lt-leb 0xD800 u (omega arith))

no_trail : (u : ℕ) → u < 0x80 → is_trail u ≡ false
no_trail u h = and_left _ _ (lt-leb 0xDC00 u (omega arith))

points_by : (b c : Bool) (xs ys : List ℕ) → b ≡ false → (if b && c then xs else ys) ≡ ys
points_by true c xs ys h = cc
points_by false c xs ys h = refl

point_alone : (u : ℕ) (us : List ℕ) → u < 0x80 → points (u ∷ us) ≡ u ∷ points us
point_alone u [] h = refl
point_alone u (v ∷ us) h = points_by (is_lead u) (is_trail v) (pair_value u v ∷ points us) (u ∷ points (v ∷ us)) (no_lead u h)

point_kept : (keep : ℕ → Bool) (u : ℕ) → u < 0x80 → keep u ≡ true → encoded_point keep u ≡ Some (u ∷ [])
point_kept keep u h k =
    cond-false (is_lead u || is_trail u) _ _ (or_from _ _ (no_lead u h) (no_trail u h)) ∙ cond-true (keep u) _ _ k
    ∙ ap Some (cond-true (nat_lt u 0x10000) _ _ (lt-ltb u 0x10000 (omega arith)))

pub encoded_same : (keep : ℕ → Bool) (us : List ℕ) → list_all (is_kept keep) us ≡ true → encoded us keep ≡ Ok us
encoded_same keep [] h = refl
encoded_same keep (u ∷ us) h =
    let p = and_parts _ _ h in
    let q = and_parts _ _ p.0 in
    let low : u < 0x80 = ltb-true u 0x80 q.0 in
    let n : ℕ = length (utf16_of u) in
    ap (encoded_points keep) (point_alone u us low) ∙ ap (λ o. after_some n o (encoded us keep)) (point_kept keep u low q.1)
    ∙ ap (after_some n (Some (u ∷ []))) (encoded_same keep us p.1)

pub decoded_same : (hold : ℕ → Bool) (us : List ℕ) → list_all is_plain us ≡ true → decoded us hold ≡ Ok us
decoded_same hold [] h = refl
decoded_same hold (u ∷ us) h =
    let p = and_parts _ _ h in
    ap (λ o. after_part o (λ n. decoded_behind hold n us)) (cond-false (u == 0x25) (escaped_part hold (u ∷ us) (escaped_byte (u ∷ us))) (Some (record { units = u ∷ []; taken = 1 })) (not-true _ p.0))
    ∙ ap (uri_after 1 (u ∷ [])) (decoded_same hold us p.1)
