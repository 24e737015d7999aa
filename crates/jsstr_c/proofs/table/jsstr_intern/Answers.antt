use Rattle.std.proofs.Common.{inr, arith}
use Rattle.heap_read.proofs.Loaded.{known_trans}
use Rattle.c_steps.proofs.Going.{goes_calls, goes_continues}
use Rattle.c_steps.proofs.Stages.{leaves_first, settled_first, units_first}
use Rattle.jsstr_c.proofs.table.jsstr_intern.Goals as goal

pub returns-clause-known : goal.returns-clause-known
returns-clause-known c = λ told. let one = c.settle_known-settled in let o = c.args.agent.now.at.value in let m = one.new.agent.at.value in
    known_trans _ _ _ (goes_continues o m (leaves_first o m c.args.s one.result one.ensures.settles (omega (arith, c.if-settled-ne-DONE.false)))).known c.jsstr_intern_unchecked.ensures.enters.known

pub returns-clause-enters : goal.returns-clause-enters
returns-clause-enters c = λ told. let one = c.settle_known-settled in let o = c.args.agent.now.at.value in let m = one.new.agent.at.value in
    inr (m, settled_first o m c.args.s one.result one.ensures.settles (omega (arith, c.if-settled-ne-DONE.false)), c.jsstr_intern_unchecked.ensures.enters)

pub returns-clause-entered : goal.returns-clause-entered
returns-clause-entered c = λ done. let one = c.settle_known-settled in let n = c.if-settled-ne-DONE.false in let t = c.jsstr_intern_unchecked.ensures.entered done in
    let kept = units_first c.args.agent.now.at.value one.new.agent.at.value c.args.s one.result one.ensures.settles (omega (arith, n)) in
    record { units = λ us h. t.units us (kept us h); call = λ us h. t.call us (kept us h); settled = t.settled }

pub returns-clause-calls : goal.returns-clause-calls
returns-clause-calls c = λ told. let one = c.settle_known-settled in let o = c.args.agent.now.at.value in let m = one.new.agent.at.value in
    let first = goes_calls o m (leaves_first o m c.args.s one.result one.ensures.settles (omega (arith, c.if-settled-ne-DONE.false))) in
    record { calls = λ us i h. c.jsstr_intern_unchecked.ensures.enters.calls.calls us i (first.calls us i h) }
