-- Helpers: no public contract reaches these definitions.
-- The URI handling functions by the code's names of them.
use Rattle.std.specs.Prelude.{List, ℕ}
use Rattle.js_uri.specs.Outcome.{UriOutcome}
use Rattle.js_uri.specs.Encoding.{encoded}
use Rattle.js_uri.specs.Decoding.{decoded}
use Rattle.js_uri.specs.Sets.{component_keep, uri_keep, no_hold, is_uri_reserved}
use Rattle.js_uri.specs.declared.faults.UriFault.{UriFault}
use Rattle.js_uri.specs.declared.faults.UriFault.TheVariants as fault
use Rattle.eval_values.specs.declared.value.Kind.TheVariants as kind
use Rattle.eval_values.specs.declared.value.Stop.{Stop}
use Rattle.eval_values.specs.declared.value.Stop.TheVariants.{Threw, Store}
use Rattle.eval_builtins.specs.declared.uris.UriFunction.{UriFunction}
use Rattle.eval_builtins.specs.declared.uris.UriFunction.TheVariants.{Encode, EncodeComponent, Decode}
use Rattle.eval_builtins.specs.declared.uris.UriFunction.TheVariants.{DecodeComponent}

-- what a function makes of units
abbrev pub outcome_of : UriFunction → List ℕ → UriOutcome
outcome_of Encode us = encoded us uri_keep
outcome_of EncodeComponent us = encoded us component_keep
outcome_of Decode us = decoded us is_uri_reserved
outcome_of DecodeComponent us = decoded us no_hold

-- how a fault of such a function stops an evaluation
abbrev pub uri_stop : UriFault → Stop
uri_stop (fault.Malformed at) = Threw kind.UriError
uri_stop (fault.RangeError cause) = Threw kind.RangeError
uri_stop (fault.Store f) = Store f
