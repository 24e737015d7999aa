use Rattle.std.proofs.Common.{arith, ◌≤◌, length}
use Rattle.eval_tree.specs.Methods.{most_taken}
use Rattle.eval_members.proofs.Taken.{all_taken}
use Rattle.eval_members.proofs.operands.taken.Goals as goal

pub returns-then-most-args : goal.returns-then-most-args
returns-then-most-args g c =
    let all : length c.args.args.now ≤ most_taken c.args.method (length c.args.args.now) = omega (arith, c.most_taken-most.ensures, c.if-most-args.true) in
    all_taken (most_taken c.args.method (length c.args.args.now)) c.args.args.now all
