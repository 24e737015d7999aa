use Rattle.std.proofs.Common.{ap, ◌∙◌}
use Rattle.js_item.specs.Seen.{seen}
use Rattle.eval_values.specs.Conversions.{to_number}
use Rattle.eval_values.proofs.Converts.{both_refused}
use Rattle.eval_values.proofs.Still.{seen_still, fine_still}
use Rattle.eval_values.proofs.operators.two_numbers.Goals as goal

pub number_of-requires-in-Err-Unsupported : goal.number_of-requires-in-Err-Unsupported
number_of-requires-in-Err-Unsupported g c =
    fine_still (g.S.Strings.state c.args.store.now) (g.S.Strings.state c.number_of.new.store) g.S.Strings.number c.in-Err-Unsupported.ensures.uses.step.grows c.args.right.now c.requires.right

pub returns-in-Err-number_of-clause-value : goal.returns-in-Err-number_of-clause-value
returns-in-Err-number_of-clause-value g c =
    let number = g.S.Strings.number in
    let a = g.S.Strings.state c.args.store.now in
    let b = g.S.Strings.state c.number_of.new.store in
    let e = c.in-Err-Unsupported.ensures.value in
    both_refused c.in-Err-Unsupported.place c.in-Err-number_of.abrupt (to_number c.args.at (seen a number c.args.left.now)) (to_number c.args.at (seen a number c.args.right.now))
    (rw c.in-Err-Unsupported.field-0-is at e)
    (c.in-Err-number_of.ensures.value ∙ ap (to_number c.args.at) (seen_still a b number c.in-Err-Unsupported.ensures.uses.step.grows c.args.right.now c.requires.right))
