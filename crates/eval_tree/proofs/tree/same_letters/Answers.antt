use Rattle.eval_tree.proofs.Keys.{same_letters}
use Rattle.eval_tree.proofs.tree.same_letters.Goals as goal

pub returns-then-right-le-SHORT : goal.returns-then-right-le-SHORT
returns-then-right-le-SHORT c = same_letters c.args.left.now c.args.right.now c.requires.left c.requires.right c.if-left-le-SHORT.true c.if-right-le-SHORT.true c.requires.keys
