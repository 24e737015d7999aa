-- Decoding undoes encoding.
use Rattle.std.specs.Prelude.{◌≡◌, ℕ, ◌<◌, Bool, List, All, Ok, IsTrue}
use Rattle.std.specs.List.{list_all}
use Rattle.js_units.specs.Text.{points}
use Rattle.js_uri.specs.Outcome.{uri_and_then}
use Rattle.js_uri.specs.Sets.{no_hold}
use Rattle.js_uri.specs.Encoding.{encoded}
use Rattle.js_uri.specs.Decoding.{is_scalar, decoded}

-- units that are 16 bits wide and among whose code points is no unpaired surrogate, encoded and decoded again
abbrev pub UndoesEncoding : (ℕ → Bool) → Type 0
UndoesEncoding keep = (us : List ℕ) → All (λ u. u < 65536) us → IsTrue (list_all is_scalar (points us))
    → uri_and_then (encoded us keep) (λ vs. decoded vs no_hold) ≡ Ok us
