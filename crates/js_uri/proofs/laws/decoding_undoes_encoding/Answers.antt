use Rattle.std.proofs.Common.{refl}
use Rattle.js_uri.specs.Sets.{component_keep, uri_keep}
use Rattle.js_uri.proofs.RoundTrip.{undone}
use Rattle.js_uri.proofs.laws.decoding_undoes_encoding.Goals as goal

pub returns-clause-component : goal.returns-clause-component
returns-clause-component c = undone component_keep refl

pub returns-clause-uri : goal.returns-clause-uri
returns-clause-uri c = undone uri_keep refl
