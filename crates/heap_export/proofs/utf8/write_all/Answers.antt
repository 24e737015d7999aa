use Rattle.std.proofs.Common.{◌++◌, ◌∙◌, ap, refl, ℕ, List, drop}
use Rattle.std.proofs.lemmas.List.{length-take-le}
use Rattle.heap_export.proofs.utf8.write_all.Goals as goal

pub returns-clause-written : goal.returns-clause-written
returns-clause-written g c us h e = (
  refl,
  e,
  c.if-count-out.false,
  ap (λ (xs : List ℕ). xs ++ drop c.args.size c.args.out.now) (c.fill.ensures.bytes us h (length-take-le c.args.size c.args.out.now c.if-count-out.false ∙ e)),
)
