use Rattle.std.proofs.Common.{rules, ◌≡◌, ap, sym, ◌∙◌, codes, false, is_some, true, Some}
use Rattle.std.proofs.lemmas.Result.{IfOk-weaker, IfErr-weaker}
use Rattle.clap.specs.Words.{first_value, found_of, rows_of}
use Rattle.run_command.specs.Words.{IsRefusal, asked_for, asked_in, named_in}
use Rattle.run_command.proofs.Asking.{asked_generated, asked_named, is_given, not_given}
use Rattle.run_command.proofs.options.input_in.Goals as goal

pub returns-then-is_none-clause-asked : goal.returns-then-is_none-clause-asked
returns-then-is_none-clause-asked c =
    let f = found_of c.args.matches.now in
    let none : is_some (first_value f (codes "generate")) ≡ false = search rules in
    rw (asked_named (rows_of f) (not_given f (codes "generate") none)) c.named.ensures.asked

pub returns-then-is_none-clause-refused : goal.returns-then-is_none-clause-refused
returns-then-is_none-clause-refused c =
    let f = found_of c.args.matches.now in
    let none : is_some (first_value f (codes "generate")) ≡ false = search rules in
    rw (asked_named (rows_of f) (not_given f (codes "generate") none)) c.named.ensures.refused

pub returns-in-None-clause-refused : goal.returns-in-None-clause-refused
returns-in-None-clause-refused c =
    let f = found_of c.args.matches.now in
    let given : is_some (first_value f (codes "generate")) ≡ true = search rules in
    asked_generated (rows_of f) (is_given f (codes "generate") given) ∙ sym c.in-None.ensures
