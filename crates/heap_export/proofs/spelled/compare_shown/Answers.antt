use Rattle.std.proofs.Common.{◌∙◌, ℕ, List, ap}
use Rattle.js_search.specs.Order.{units_cmp}
use Rattle.heap_export.proofs.spelled.compare_shown.Goals as goal

pub returns-clause-order : goal.returns-clause-order
returns-clause-order g c us h = c.cmp.ensures ∙ ap (λ (xs : List ℕ). units_cmp xs c.args.units.now) (c.read_in.ensures.units us h)
