use Rattle.std.proofs.Common.{◌∙◌}
use Rattle.parse_tokens.proofs.Colons.{next_colon, none_next}
use Rattle.parse_tokens.proofs.read.colon_follows.Goals as goal

pub returns-in-Ok-Some-clause-colon : goal.returns-in-Ok-Some-clause-colon
returns-in-Ok-Some-clause-colon c = λ ts h. c.is_colon.ensures ∙ next_colon c.args.text.now c.args.at c.in-Ok-Some.token c.utf8.text
    (rw (c.in-Ok-Some.is, c.in-Ok-Some.field-0-is) at c.next_token.ensures.given) ts h

pub returns-in-Ok-None-clause-colon : goal.returns-in-Ok-None-clause-colon
returns-in-Ok-None-clause-colon c = none_next c.args.text.now c.args.at c.utf8.text (rw (c.in-Ok-None.is, c.in-Ok-None.field-0-is) at c.next_token.ensures.given)
