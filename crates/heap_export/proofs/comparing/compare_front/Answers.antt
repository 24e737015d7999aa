use Rattle.std.proofs.Common.{◌≡◌, ◌+◌, ◌∙◌, ℕ, ap, drop, arith}
use Rattle.std.proofs.lemmas.List.{length-take-le}
use Rattle.std.specs.Ordering.{ordering_then}
use Rattle.js_search.specs.Order.{units_cmp}
use Rattle.heap_export.proofs.comparing.compare_front.Goals as goal

pub returns-clause-order : goal.returns-clause-order
returns-clause-order g c us h = let units = c.args.units.now in let span = c.compare_span in let few = c.if-size-gt-FEW.false in
    let size = length-take-le c.args.size _ (omega arith) in let none : 0 + c.args.size ≡ c.args.size = omega arith in
    span.ensures.order us h ∙ (ap (λ (n : ℕ). ordering_then span.result (units_cmp (drop (0 + n) us) (drop (0 + n) units))) size
    ∙ ap (λ (n : ℕ). ordering_then span.result (units_cmp (drop n us) (drop n units))) none)
