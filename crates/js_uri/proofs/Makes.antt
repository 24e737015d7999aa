-- What follows from the measure of an outcome.
use Rattle.std.proofs.Common.{◌≡◌, ℕ, ◌<◌, ◌≤◌, List, [], ◌++◌, length, Ok, Err, arith, refl, ap, sym}
use Rattle.std.specs.Prelude.{IsOk}
use Rattle.js_texts.specs.declared.faults.Cause.TheVariants.{TooLong}
use Rattle.js_uri.specs.declared.faults.UriFault.TheVariants.{Malformed, RangeError}
use Rattle.js_uri.specs.Outcome.{UriOutcome, measure, units}
use Rattle.js_uri.specs.Answers.{IsThrown, IsUriWithin}

pub place_thrown : (o : UriOutcome) (at limit : ℕ) → Err at ≡ measure o → IsThrown (Malformed at) limit o
place_thrown (Ok us) at limit h = cc
place_thrown (Err k) at limit h = cc

pub length_thrown : (o : UriOutcome) (n limit : ℕ) → Ok n ≡ measure o → limit < n → IsThrown (RangeError (TooLong n)) limit o
length_thrown (Ok us) n limit h l = let e : n ≡ length us = cc in (omega (arith, e), ap TooLong e)
length_thrown (Err k) n limit h l = cc

pub list_is : (o : UriOutcome) (n : ℕ) → Ok n ≡ measure o → IsOk o
list_is (Ok us) n h = refl
list_is (Err k) n h = cc

pub outcome_is : (o : UriOutcome) (n : ℕ) (us : List ℕ) → Ok n ≡ measure o → us ≡ [] ++ units o → o ≡ Ok us
outcome_is (Ok vs) n us h e = ap Ok (sym e)
outcome_is (Err k) n us h e = cc

pub length_within : (o : UriOutcome) (n limit : ℕ) → Ok n ≡ measure o → n ≤ limit → IsUriWithin limit o
length_within (Ok us) n limit h l = let e : n ≡ length us = cc in omega (arith, e)
length_within (Err k) n limit h l = cc
