use Rattle.std.proofs.Common.{◌∙◌}
use Rattle.js_item.specs.Fine.{strings_of}
use Rattle.js_item.proofs.Still.{fine_keys}
use Rattle.eval_values.proofs.Objects.{own_by_keys}
use Rattle.eval_values.proofs.conversions.has_to_string.Goals as goal

pub has-requires : goal.has-requires
has-requires g c = fine_keys (strings_of (g.S.Strings.state c.args.store.now)) g.S.Strings.number c.args.object.now c.requires

pub returns-clause-value : goal.returns-clause-value
returns-clause-value g c = c.has.ensures.value ∙ own_by_keys (g.S.Strings.state c.args.store.now) g.S.Strings.number c.args.object.now
