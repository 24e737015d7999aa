use Rattle.std.proofs.Common.{refl}
use Rattle.parse_syntax.specs.Grammar.{most}
use Rattle.parse_statements.proofs.statement.limit.Goals as goal

pub returns : goal.returns
unfolding most
returns c = refl
