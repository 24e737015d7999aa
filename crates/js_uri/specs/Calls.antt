-- Helpers: no public contract reaches these definitions.
-- The four URI functions.
use Rattle.std.specs.Prelude.{ℕ, Bool, List}
use Rattle.js_uri.specs.declared.sets.UriPart.{UriPart}
use Rattle.js_uri.specs.declared.sets.UriPart.TheVariants.{Whole, Component}
use Rattle.js_uri.specs.declared.answering.UriCall.{UriCall}
use Rattle.js_uri.specs.declared.answering.UriCall.TheVariants.{Encode, Decode}
use Rattle.js_uri.specs.Outcome.{UriOutcome}
use Rattle.js_uri.specs.Sets.{component_keep, uri_keep, no_hold, is_uri_reserved}
use Rattle.js_uri.specs.Encoding.{encoded}
use Rattle.js_uri.specs.Decoding.{decoded}

abbrev pub keep_of : UriPart → ℕ → Bool
keep_of Whole c = uri_keep c
keep_of Component c = component_keep c

abbrev pub hold_of : UriPart → ℕ → Bool
hold_of Whole b = is_uri_reserved b
hold_of Component b = no_hold b

-- what a call makes of units
abbrev pub outcome : UriCall → List ℕ → UriOutcome
outcome (Encode part) us = encoded us (keep_of part)
outcome (Decode part) us = decoded us (hold_of part)
