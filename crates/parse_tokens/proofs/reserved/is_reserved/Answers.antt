use Rattle.std.proofs.Common.{◌∙◌, length}
use Rattle.parse_tokens.specs.Lengths.{of_length}
use Rattle.parse_tokens.proofs.ByLength.{in_of_length, all_of_length}
use Rattle.parse_tokens.proofs.reserved.is_reserved.Goals as goal

pub returns : goal.returns
returns c = let n = length c.args.letters.now in c.is_one_of.ensures (of_length n) (all_of_length n) c.words_of.ensures ∙ in_of_length c.args.letters.now
