use Rattle.std.proofs.Common.{◌≡◌, ◌∙◌, ◌++◌, ℕ, List, ap, subst, arith}
use Rattle.heap_rule.specs.Maps.{Has}
use Rattle.heap_agents.specs.Ready.{handle_view}
use Rattle.c_steps.proofs.Going.{does_done}
use Rattle.c_steps.proofs.Texts.{builds_done}
use Rattle.c_bulk.proofs.uses.built_of_two.Goals as goal

pub returns-clause-units : goal.returns-clause-units
returns-clause-units c = let one = c.jsstr_build_units-front in let two = c.jsstr_build_units-behind in let made = c.jsstr_built-made in
    let a = c.if-front-ne-DONE.false in let b = c.if-behind-ne-DONE.false in let d = c.if-made-ne-DONE.false in
    let done : made.result.status ≡ 0 = omega (arith, d) in
    let left = builds_done c.args.text.now.at.value one.new.text.at.value c.args.first.now one.result one.ensures.builds
    (omega (arith, a)) ∙ ap (λ (xs : List ℕ). xs ++ c.args.first.now) c.requires.empty in
    let all = builds_done one.new.text.at.value two.new.text.at.value c.args.second.now two.result two.ensures.builds (omega (arith, b)) ∙ ap (λ (xs : List ℕ). xs ++ c.args.second.now) left in
    subst (λ (us : List ℕ). Has (handle_view made.new.agent.at.value).units made.result.id us) all ((does_done _ _ _ _ _ made.ensures.makes done).units done)
