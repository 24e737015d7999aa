-- Decoding, piece by piece.
use Rattle.std.proofs.Common.{◌≡◌, ℕ, zero, suc, ◌+◌, ◌-◌, ◌≤◌, List, [], ◌∷◌, ◌++◌, length, drop, length-take, Bool, Some, arith, refl, ap, sym, subst, ◌∙◌, append_assoc}
use Rattle.std.specs.Prelude.{IsOk}
use Rattle.js_uri.specs.Outcome.{UriOutcome, uri_after, measure, units}
use Rattle.js_uri.specs.Steps.{after_some}
use Rattle.js_uri.specs.declared.decoding.Piece.{Piece}
use Rattle.js_uri.specs.declared.decoding.Piece.TheVariants.{Same, Char}
use Rattle.js_uri.specs.Pieces.{taken_by, length_of, units_given}
use Rattle.js_uri.specs.Decoding.{DecodedPart, first_part, decoded_behind, decoded}
use Rattle.js_uri.specs.Steps.{after_part}
use Rattle.js_uri.proofs.Outcomes.{counted, counted_turn, written_rest, written_units}

drop_none : (n : ℕ) → drop {A = ℕ} n [] ≡ []
drop_none zero = refl
drop_none (suc n) = refl

-- passing units over is leaving them out
pub passed : (hold : ℕ → Bool) (n : ℕ) (us : List ℕ) → decoded_behind hold n us ≡ decoded (drop n us) hold
passed hold n [] = ap (λ us. decoded us hold) (sym (drop_none n))
passed hold zero (u ∷ us) = refl
passed hold (suc n) (u ∷ us) = passed hold n us

taken_one : (n u : ℕ) (us : List ℕ) → 1 ≤ n → drop (n - 1) us ≡ drop n (u ∷ us)
taken_one zero u us h = absurd (omega arith)
taken_one (suc n) u us h = let e : suc n - 1 ≡ n = omega arith in ap (λ k. drop k us) e

pub decoded_turn : (hold : ℕ → Bool) (us : List ℕ) (p : DecodedPart) → first_part hold us ≡ Some p → 1 ≤ p.taken → decoded us hold ≡ after_some p.taken (Some p.units) (decoded (drop p.taken us) hold)
decoded_turn hold [] p h l = cc
decoded_turn hold (u ∷ us) p h l =
    ap (λ o. after_part o (λ n. decoded_behind hold n us)) h ∙ ap (uri_after p.taken p.units) (passed hold (p.taken - 1) us ∙ ap (λ vs. decoded vs hold) (taken_one p.taken u us l))

-- the length, or the place, of the units ws, of which us are left, and then vs
pub length_turn : (hold : ℕ → Bool) (ws us vs : List ℕ) (p : DecodedPart) (n len : ℕ) → measure (decoded ws hold) ≡ counted
    (length ws - length us) len (measure (decoded us hold)) → Some p ≡ first_part hold us → 1 ≤ p.taken → vs ≡ drop p.taken us → length us ≡
    p.taken + length vs → length us ≤ length ws → n ≡ length p.units → measure (decoded ws hold) ≡ counted (length ws - length vs) (len + n)
    (measure (decoded vs hold))
length_turn hold ws us vs p n len h q l e m k f =
    let at : ℕ = length ws - length us in
    let more : at + p.taken ≡ length ws - length vs = omega arith in
    h ∙ ap (λ r. counted at len (measure r)) (decoded_turn hold us p (sym q) l ∙ ap
    (λ ys. after_some p.taken (Some p.units) (decoded ys hold)) (sym e)) ∙ counted_turn (Some p.units) (decoded vs hold) at p.taken len n
    (ap Some f) ∙ ap (λ a. counted a (len + n) (measure (decoded vs hold))) more

-- what is written of the units us, of which none is malformed
pub rest_is_ok : (hold : ℕ → Bool) (us vs : List ℕ) (p : DecodedPart) → Some p ≡ first_part hold us → 1 ≤ p.taken → vs ≡ drop p.taken us → IsOk (decoded us hold) → IsOk (decoded vs hold)
rest_is_ok hold us vs p q l e h =
    let ok = written_rest (Some p.units) (decoded (drop p.taken us) hold) p.taken (subst (λ (r : UriOutcome). IsOk r) (decoded_turn hold us p (sym q) l) h) in
    subst (λ (ys : List ℕ). IsOk (decoded ys hold)) (sym e) ok

pub units_turn : (hold : ℕ → Bool) (t m l us vs : List ℕ) (p : DecodedPart) → Some p ≡ first_part hold us → 1 ≤ p.taken → vs ≡ drop p.taken
    us → IsOk (decoded us hold) → m ≡ t ++ p.units → t ++ units (decoded us hold) ≡ l → m ++ units (decoded vs hold) ≡ l
units_turn hold t m l us vs p q n d h e f =
    let turn = decoded_turn hold us p (sym q) n in
    let rest : List ℕ = units (decoded (drop p.taken us) hold) in
    let split : units (decoded us hold) ≡ p.units ++ rest = ap units turn ∙ written_units (Some p.units) (decoded (drop p.taken us) hold) p.taken (subst (λ (r : UriOutcome). IsOk r) turn h) in
    ap (λ ys. m ++ units (decoded ys hold)) d ∙ ap (λ k. k ++ rest) e ∙ append_assoc t p.units rest ∙ ap (λ k. t ++ k) (sym split) ∙ f

-- a piece's length is that of its units
pub length_given : (p : Piece) (us : List ℕ) → taken_by p ≤ length us → length_of p ≡ length (units_given p us)
length_given (Same n) us h = omega (arith, length-take n us)
length_given (Char c taken) us h = refl
