use Rattle.std.proofs.Common.{◌≡◌, refl, arith}
use Rattle.heap_rule.proofs.MapLemmas.{has_key}
use Rattle.heap_agents.specs.Ready.{handle_view}
use Rattle.c_steps.proofs.Stages.{goes_on, stops}
use Rattle.c_reads.proofs.reading.jsstr_read.Goals as goal

pub returns-then-settled-ne-DONE-clause-reads : goal.returns-then-settled-ne-DONE-clause-reads
returns-then-settled-ne-DONE-clause-reads c = let first = c.settle_reaching-settled in
    stops c.args.agent.now.at.value first.new.agent.at.value c.args.s first.result first.ensures.settles _ _ _ refl c.if-settled-ne-DONE.true refl

pub read_into-requires-clause-within : goal.read_into-requires-clause-within
read_into-requires-clause-within c = let first = c.settle_reaching-settled in let e : first.result.status ≡ 0 = omega (arith, c.if-settled-ne-DONE.false) in
    let u = has_key (handle_view first.new.agent.at.value).units c.args.s (first.ensures.readable e).0 in let long = first.ensures.long e u.0 u.1 in (u.0, u.1, omega (arith, long))

pub returns-clause-reads : goal.returns-clause-reads
returns-clause-reads c = let first = c.settle_reaching-settled in let two = c.read_into in let n = c.if-settled-ne-DONE.false in
    goes_on c.args.agent.now.at.value first.new.agent.at.value c.args.s first.result first.ensures.settles two.new.agent.at.value _ _ _ (omega (arith, n)) two.ensures.looks
    (λ (x : 0 ≡ 9). absurd (omega (arith, x))) (λ (x : 0 ≡ 4). absurd (omega (arith, x))) (λ us h. (refl, two.ensures.units us h))
