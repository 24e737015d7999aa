use Rattle.eval_builtins.proofs.Numbers.{all_points}
use Rattle.eval_builtins.proofs.codes.make.Goals as goal

pub from_code_points-requires-clause-points : goal.from_code_points-requires-clause-points
from_code_points-requires-clause-points g c = all_points c.args.numbers.now (rw c.in-CodePoints.is at c.requires.each)
