use Rattle.std.proofs.Common.{◌≡◌, ◌<◌, ◌≤◌, ◌++◌, [], ap, ◌∙◌, arith}
use Rattle.js_uri.specs.Outcome.{units}
use Rattle.js_uri.specs.Calls.{outcome}
use Rattle.js_uri.proofs.Makes.{place_thrown, length_thrown, list_is, outcome_is, length_within}
use Rattle.js_uri.proofs.answering.UriCall.make_units.Goals as goal

pub returns-in-Err-clause-throws : goal.returns-in-Err-clause-throws
returns-in-Err-clause-throws c = place_thrown (outcome c.args.self c.args.units.now) c.in-Err.at c.args.limit c.in-Err.ensures

pub returns-then-length-from-clause-throws : goal.returns-then-length-from-clause-throws
returns-then-length-from-clause-throws c =
    let over : c.args.limit < c.in-Ok.length = omega arith in
    length_thrown (outcome c.args.self c.args.units.now) c.in-Ok.length c.args.limit c.in-Ok.ensures over

pub write-requires : goal.write-requires
write-requires c = list_is (outcome c.args.self c.args.units.now) c.in-Ok.length c.in-Ok.ensures

pub returns-clause-value : goal.returns-clause-value
returns-clause-value c =
    let o = outcome c.args.self c.args.units.now in
    let made : c.write.new.text ≡ [] ++ units o = c.in_ok-write.ensures.added ∙ ap (λ t. t ++ units o) c.new-text.ensures in
    outcome_is o c.in-Ok.length c.write.new.text c.in-Ok.ensures made

pub returns-clause-throws : goal.returns-clause-throws
returns-clause-throws c =
    let under : c.in-Ok.length ≤ c.args.limit = omega arith in
    length_within (outcome c.args.self c.args.units.now) c.in-Ok.length c.args.limit c.in-Ok.ensures under
