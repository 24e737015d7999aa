use Rattle.std.proofs.Common.{◌≡◌, arith, refl}
use Rattle.c_steps.proofs.Going.{searches_strings}
use Rattle.jsstr_c.proofs.uses.searched.Goals as goal

pub jsstr_intern_unchecked-one-requires-clause-settled : goal.jsstr_intern_unchecked-one-requires-clause-settled
jsstr_intern_unchecked-one-requires-clause-settled c = let m = c.if-made-ne-DONE.false in let made = c.from_units-made in let equal = c.jsstr_equal_unchecked-equal in
    let done : made.result.status ≡ 0 = omega arith in
    (searches_strings made.new.agent.at.value equal.new.agent.at.value equal.ensures.searches).settled made.result.id (made.ensures.makes.settled done)

pub returns-clause-equal : goal.returns-clause-equal
returns-clause-equal c = let m = c.if-made-ne-DONE.false in let made = c.from_units-made in let equal = c.jsstr_equal_unchecked-equal in let us = c.args.units.now in
    let done : made.result.status ≡ 0 = omega (arith, m) in let has = made.ensures.makes.units done in (equal.ensures.value us us has has).1 refl
