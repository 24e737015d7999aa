use Rattle.std.proofs.Common.{◌∙◌, sym, arith}
use Rattle.heap_core_views.specs.Loading.{loaded_by}
use Rattle.heap_core_views.proofs.Justified.{frozen_next}
use Rattle.heap_core_views.proofs.load.Load.are_frozen.Goals as goal

pub words-preserved : goal.words-preserved
words-preserved c = (
  frozen_next (loaded_by c.args.view.now c.args.self.now) c.words.at c.words.left c.words-test.true
      (sym c.is_frozen.ensures ∙ c.if-not-is_frozen.false) ∙ c.words.invariant.0,
  let i = c.words.invariant.1 in let t = c.words-test.true in omega arith,
)
