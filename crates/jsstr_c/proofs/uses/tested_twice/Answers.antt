use Rattle.std.proofs.Common.{◌≡◌, eq-eqb, arith}
use Rattle.c_steps.proofs.Going.{does_done, spends_calls}
use Rattle.jsstr_c.proofs.Same.{called, one_call}
use Rattle.jsstr_c.proofs.uses.tested_twice.Goals as goal

pub returns-clause-same : goal.returns-clause-same
returns-clause-same c = let us = c.args.units.now in let first = c.jsstr_from_units-first in let one = c.jsstr_intern-one in
    let second = c.jsstr_from_units-second in let other = c.jsstr_intern-other in
    let a = c.if-first-ne-DONE.false in let b = c.if-one-ne-DONE.false in let d = c.if-second-ne-DONE.false in let e = c.if-other-ne-DONE.false in
    let made : first.result.status ≡ 0 = omega (arith, a) in let interned : one.result.status ≡ 0 = omega (arith, b) in let again : second.result.status ≡ 0 = omega (arith, d) in
    let twice : other.result.status ≡ 0 = omega (arith, e) in let o = other.new.agent.at.value in
    let call = (one.ensures.entered interned).call us ((does_done _ _ _ _ _ first.ensures.makes made).units made) in
    let kept = (spends_calls one.new.agent.at.value second.new.agent.at.value (does_done _ _ _ _ _ second.ensures.makes again).goes).calls us one.result.id call in
    let left = (other.ensures.calls (λ (x : other.result.status ≡ 9). absurd (omega (arith, x, twice)))).calls us one.result.id kept in
    let right = (other.ensures.entered twice).call us ((does_done _ _ _ _ _ second.ensures.makes again).units again) in
    let ready = (called o other.new.agent.live other.ensures.handle other.result.id (other.ensures.marked twice).1).0 in
    eq-eqb _ _ (one_call o ready us one.result.id other.result.id left right)
