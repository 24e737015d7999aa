use Rattle.std.proofs.Common.{sym, ap}
use Rattle.parse_tokens.specs.Lengths.{of_length, spaced}
use Rattle.parse_tokens.proofs.reserved.words_of.Goals as goal

pub returns-in-10 : goal.returns-in-10
returns-in-10 c = ap (λ n. spaced (of_length n)) (sym c.in-10.is)
