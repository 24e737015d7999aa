use Rattle.std.proofs.Common.{◌≡◌, ◌++◌, ◌-◌, ℕ, length, subst, arith}
use Rattle.heap_rule.specs.Births.{part}
use Rattle.heap_rule.specs.Maps.{Has}
use Rattle.heap_agents.specs.Ready.{handle_view}
use Rattle.c_steps.proofs.Going.{does_done, spends_units}
use Rattle.jsstr_c.proofs.uses.joined_and_cut.Goals as goal

pub returns-clause-units : goal.returns-clause-units
returns-clause-units c = let us = c.args.first.now in let vs = c.args.second.now in
    let left = c.jsstr_from_units-left in let right = c.jsstr_from_units-right in let both = c.jsstr_concat-both in let front = c.jsstr_slice-front in
    let l = c.if-left-ne-DONE.false in let r = c.if-right-ne-DONE.false in let b = c.if-both-ne-DONE.false in let f = c.if-front-ne-DONE.false in
    let one : left.result.status ≡ 0 = omega (arith, l) in let two : right.result.status ≡ 0 = omega (arith, r) in
    let three : both.result.status ≡ 0 = omega (arith, b) in let four : front.result.status ≡ 0 = omega (arith, f) in
    let kept = spends_units left.new.agent.at.value right.new.agent.at.value (does_done _ _ _ _ _ right.ensures.makes two).goes left.result.id
    us ((does_done _ _ _ _ _ left.ensures.makes one).units one) in
    let all = both.ensures.units three us vs kept ((does_done _ _ _ _ _ right.ensures.makes two).units two) in
    let long : length us - 0 ≡ length us = omega arith in
    subst (λ (n : ℕ). Has (handle_view front.new.agent.at.value).units front.result.id (part 0 n (us ++ vs))) long (front.ensures.units four (us ++ vs) all)
