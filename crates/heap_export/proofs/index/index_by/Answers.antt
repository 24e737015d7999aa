use Rattle.std.proofs.Common.{ℕ, List, subst}
use Rattle.heap_export.specs.Index.{IsArrayIndex}
use Rattle.heap_export.proofs.index.index_by.Goals as goal

pub returns-clause-index : goal.returns-clause-index
returns-clause-index g c us h = subst (λ (xs : List ℕ). IsArrayIndex xs c.index_of_digits.result) (c.fill_units.ensures.units us h) c.index_of_digits.ensures
