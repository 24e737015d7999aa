use Rattle.std.proofs.Common.{◌≡◌, inr, arith}
use Rattle.heap_rule.proofs.MapLemmas.{has_key}
use Rattle.heap_agents.specs.Ready.{handle_view}
use Rattle.c_steps.proofs.Stages.{settled_first, units_first}
use Rattle.jsstr_c.proofs.making.jsstr_slice.Goals as goal

pub jsstr_slice_unchecked-requires-clause-within : goal.jsstr_slice_unchecked-requires-clause-within
jsstr_slice_unchecked-requires-clause-within c = let one = c.settle_reaching-settled in let e : one.result.status ≡ 0 = omega (arith, c.if-settled-ne-DONE.false) in
    let u = has_key (handle_view one.new.agent.at.value).units c.args.s (one.ensures.readable e).0 in let long = one.ensures.long e u.0 u.1 in let low = c.if-to-from.false in
    (u.0, u.1, omega (arith, low), omega (arith, long, low))

pub returns-clause-units : goal.returns-clause-units
returns-clause-units c = λ done us h. let one = c.settle_reaching-settled in
    c.jsstr_slice_unchecked.ensures.units done us (units_first c.args.agent.now.at.value one.new.agent.at.value c.args.s one.result
    one.ensures.settles (omega (arith, c.if-settled-ne-DONE.false)) us h)

pub returns-clause-cuts : goal.returns-clause-cuts
returns-clause-cuts c = λ told. let one = c.settle_reaching-settled in let m = one.new.agent.at.value in
    inr (m, settled_first c.args.agent.now.at.value m c.args.s one.result one.ensures.settles (omega (arith, c.if-settled-ne-DONE.false)), c.jsstr_slice_unchecked.ensures.cuts)
