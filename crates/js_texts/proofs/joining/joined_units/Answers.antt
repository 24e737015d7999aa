use Rattle.std.proofs.Common.{rules, ◌∙◌}
use Rattle.js_texts.proofs.Lists.{settle_still}
use Rattle.js_texts.proofs.joining.joined_units.Goals as goal

pub returns-in_err-append_joined-clause-uses : goal.returns-in_err-append_joined-clause-uses
returns-in_err-append_joined-clause-uses g c = record {
  step = search (rules, settle_still);
  no_slots = search rules;
  history = c.in_err-append_joined.ensures.uses.history ∙ c.in_ok-sep.ensures.uses.history;
}
