use Rattle.std.proofs.Common.{arith, sym, ◌∙◌, true, ◌≡◌, refl, eq-eqb, eqb-true, nat_eq}
use Rattle.heap_rule.specs.declared.size.Counter.TheVariants.{Ids, Words}
use Rattle.heap_core_views.proofs.KindLemmas.{may_by}
use Rattle.heap_core_views.proofs.claims.may_claim.Goals as goal

pub returns-in-Ids : goal.returns-in-Ids
returns-in-Ids c = may_by c.args.view.now c.args.counter c.args.at c.args.want c.get.result c.end.result (nat_eq c.args.want 1) c.get.ensures c.end.ensures (omega arith) (omega arith) (omega arith)
    (λ h _. eqb-true c.args.want 1 h) (λ f. eq-eqb c.args.want 1 (f c.in-Ids.is))

pub returns-in-Words : goal.returns-in-Words
returns-in-Words c = may_by c.args.view.now c.args.counter c.args.at c.args.want c.get.result c.end.result true c.get.ensures c.end.ensures (omega arith) (omega arith) (omega arith)
    (λ _ h. let e : Words ≡ Ids = sym c.in-Words.is ∙ h in absurd (cc)) (λ _. refl)
