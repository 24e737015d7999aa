use Rattle.js_eval.proofs.script.holds_by_sides.Goals as goal

pub returns-in-Some-clause-did : goal.returns-in-Some-clause-did
returns-in-Some-clause-did g c = rw c.in-Some.ensures.tree c.holds_of_two.ensures.did
