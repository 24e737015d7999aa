use Rattle.std.proofs.Common.{◌≡◌, inr, arith}
use Rattle.c_steps.proofs.Stages.{settled_first, units_first}
use Rattle.c_bulk.proofs.copying.jsstr_intern_into.Goals as goal

pub returns-clause-does : goal.returns-clause-does
returns-clause-does c = λ told. let one = c.settle_known-settled in let two = c.on_string in let o = c.args.from.now.at.value in let m = one.new.agent.at.value in
    let e : one.result.status ≡ 0 = omega (arith, c.if-settled-ne-DONE.false) in let s = one.ensures.settles in
    inr ((m, settled_first o m c.args.s one.result s e, two.ensures.looks), λ us h. two.ensures.does us (units_first o m c.args.s one.result s e us h))

pub returns-clause-bad : goal.returns-clause-bad
returns-clause-bad c = let told = c.on_string.ensures.told in let one = c.settle_known-settled in let bad = one.ensures.bad in
    let full = c.is_empty.ensures.ready in let some = c.if-is_empty.false in let done : one.result.status ≡ 0 = omega (arith, c.if-settled-ne-DONE.false) in (
      λ x. absurd (told x),
      λ n. let none : one.result.status ≡ 9 = bad.1 (λ a. let full_is = full.1 (λ b. n (a, b)) in absurd (grind (arith, full_is, some))) in absurd (omega (arith, none, done)),
    )
