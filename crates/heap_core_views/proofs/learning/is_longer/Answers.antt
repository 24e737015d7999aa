use Rattle.heap_core_views.proofs.FrozenWords.{longer_by}
use Rattle.heap_core_views.proofs.learning.is_longer.Goals as goal

pub returns : goal.returns
returns c = longer_by c.args.view.now c.args.id c.args.n c.has_longer.result c.has_later_part.result c.if-has_longer.false c.has_longer.ensures.1 c.has_later_part.ensures
