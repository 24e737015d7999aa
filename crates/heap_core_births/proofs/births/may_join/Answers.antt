use Rattle.std.proofs.Common.{◌≡◌, ◌∙◌, true, false, sym, subst, rules, IsTrue, ◌↔◌, Bool}
use Rattle.heap_core_births.specs.Moving.{Join}
use Rattle.heap_core_births.proofs.Joins.{join_by, join_not}
use Rattle.heap_core_births.proofs.births.may_join.Goals as goal

pub returns-then-is_narrow : goal.returns-then-is_narrow
returns-then-is_narrow c = join_by c.args.left.now c.args.right.now c.args.n c.args.wide c.is_narrow-then-is_narrow.result (search rules)
    (search rules) (search rules) (c.is_narrow.ensures.0 c.if-is_narrow.true) c.is_narrow-then-is_narrow.ensures

pub returns-else-is_narrow : goal.returns-else-is_narrow
returns-else-is_narrow c = subst (λ (b : Bool). IsTrue b ↔ Join c.args.left.now c.args.right.now c.args.n c.args.wide) (sym c.if-is_narrow.false)
    (join_not c.args.left.now c.args.right.now c.args.n c.args.wide (λ h. let e : false ≡ true = sym c.if-is_narrow.false ∙ c.is_narrow.ensures.1 h in absurd (cc)))
