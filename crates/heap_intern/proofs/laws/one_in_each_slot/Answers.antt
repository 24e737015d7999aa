use Rattle.std.proofs.Common.{◌≡◌, ◌+◌, ◌∙◌, ap, sym, arith}
use Rattle.heap_rule.specs.Contents.{units_of}
use Rattle.heap_intern.proofs.laws.one_in_each_slot.Goals as goal

pub returns : goal.returns
returns c = λ z agents W views s m v at live n w at' live' k i j h h'. let ours = s.knows m v at live in let theirs = s.knows n w at' live' in
    let same : i + 1 ≡ j + 1 = sym (ours.of_slots k i h).1 ∙ (theirs.of_slots k j h').1 in let is : i ≡ j = omega arith in
    (is, λ us ws u t. sym (ours.of_units i us u).1 ∙ (ap (units_of z W) is ∙ (theirs.of_units j ws t).1))
