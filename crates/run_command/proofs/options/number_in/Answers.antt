use Rattle.std.proofs.Common.{rules, ◌≡◌, ◌⊎◌, inl, inr, ◌<ℤ◌, ◌≤ℤ◌, ℤ, pos, sym, ◌∙◌, None, Some, arith}
use Rattle.std.proofs.lemmas.Int.{ints}
use Rattle.clap.specs.Words.{first_value, found_of}
use Rattle.run_command.proofs.Reading.{number_inside, number_not_given, number_outside, number_unread}
use Rattle.run_command.proofs.options.number_in.Goals as goal
use Rattle.run_command.proofs.options.number_in.Goals.{then-number-from-via-then-number-from, then-number-from-via-else-number-from+then-number-from-2}

pub returns-in_err-get_str : goal.returns-in_err-get_str
returns-in_err-get_str c =
    let f = found_of c.args.matches.now in
    let result : c.from_residual.result ≡ None = search rules in
    let given : None ≡ first_value f c.args.id.now = search rules in
    result ∙ sym (number_not_given c.args.least c.args.most f c.args.id.now given)

pub returns-in_err-number : goal.returns-in_err-number
returns-in_err-number c =
    let f = found_of c.args.matches.now in
    let result : c.from_residual-in_err-number.result ≡ None = search rules in
    let given : Some c.in_ok-get_str.field-0.now ≡ first_value f c.args.id.now = search rules in
    result ∙ sym (number_unread c.args.least c.args.most f c.args.id.now c.in_ok-get_str.field-0.now given c.parse.result c.parse.ensures.value.0 c.in_err-number.ensures.value)

pub returns-then-number-from : goal.returns-then-number-from
returns-then-number-from c =
    let f = found_of c.args.matches.now in
    let given : Some c.in_ok-get_str.field-0.now ≡ first_value f c.args.id.now = search rules in
    let out : (c.in_ok-number.number <ℤ pos c.args.least) ⊎ (pos c.args.most <ℤ c.in_ok-number.number) = elim c.then-number-from.branch [
      | then-number-from-via-then-number-from w ↦ inl (grind (arith, ints, w.if-number-from.true, c.from.ensures))
      | then-number-from-via-else-number-from+then-number-from-2 w ↦ inr (grind (arith, ints, w.if-number-from-2.true, w.from-else-number-from.ensures))
    ] in
    sym (number_outside c.args.least c.args.most f c.args.id.now c.in_ok-get_str.field-0.now given c.in_ok-number.number c.parse.result c.parse.ensures.value.0 c.in_ok-number.ensures.value out)

pub returns : goal.returns
returns c =
    let f = found_of c.args.matches.now in
    let given : Some c.in_ok-get_str.field-0.now ≡ first_value f c.args.id.now = search rules in
    let low : pos c.args.least ≤ℤ c.in_ok-number.number = grind (arith, ints, c.if-number-from.false, c.from.ensures) in
    let high : c.in_ok-number.number ≤ℤ pos c.args.most = grind (arith, ints, c.if-number-from-2.false, c.from-else-number-from.ensures) in
    sym (number_inside c.args.least c.args.most f c.args.id.now c.in_ok-get_str.field-0.now given c.in_ok-number.number c.parse.result c.parse.ensures.value.0 c.in_ok-number.ensures.value low high)
