-- Outcomes from the front, as their lengths are counted and their lists are written.
use Rattle.std.proofs.Common.{◌≡◌, ℕ, ◌+◌, ◌-◌, List, [], ◌++◌, length, Option, Some, None, Result, Ok, Err, arith, refl, ap, length-append}
use Rattle.std.specs.Prelude.{IsOk, option_map, unwrap_or}
use Rattle.js_uri.specs.Outcome.{UriOutcome, measure, units}
use Rattle.js_uri.specs.Steps.{after_some}

-- a length, or a place, behind so many units that gave so many
abbrev pub counted : ℕ → ℕ → Result ℕ ℕ → Result ℕ ℕ
counted at len (Ok n) = Ok (len + n)
counted at len (Err k) = Err (at + k)

pub counted_start : (n : ℕ) (r : Result ℕ ℕ) → r ≡ counted (n - n) 0 r
counted_start n (Ok m) = ap Ok (omega arith)
counted_start n (Err k) = ap Err (omega arith)

pub counted_turn : (o : Option (List ℕ)) (r : UriOutcome) (at w len n : ℕ) → Some n ≡ option_map length o → counted at len (measure (after_some w o r)) ≡ counted (at + w) (len + n) (measure r)
counted_turn None r at w len n h = cc
counted_turn (Some us) (Ok vs) at w len n h = let e : n ≡ length us = cc in ap Ok (omega (arith, length-append us vs))
counted_turn (Some us) (Err k) at w len n h = ap Err (omega arith)

pub written_rest : (o : Option (List ℕ)) (r : UriOutcome) (w : ℕ) → IsOk (after_some w o r) → IsOk r
written_rest None r w h = cc
written_rest (Some us) (Ok vs) w h = refl
written_rest (Some us) (Err k) w h = cc

pub written_units : (o : Option (List ℕ)) (r : UriOutcome) (w : ℕ) → IsOk (after_some w o r) → units (after_some w o r) ≡ unwrap_or o [] ++ units r
written_units None r w h = cc
written_units (Some us) (Ok vs) w h = refl
written_units (Some us) (Err k) w h = cc
