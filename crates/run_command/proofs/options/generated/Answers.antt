use Rattle.std.proofs.Common.{rules, ◌≡◌, ◌≤◌, ap, sym, ◌∙◌, codes, false, is_some, length, true, arith}
use Rattle.clap.specs.Words.{first_value, found_of, rows_of}
use Rattle.run_command.specs.Words.{files_in}
use Rattle.run_command.proofs.Asking.{files_generate_none, generates, is_given, not_given, prelude_generates_none}
use Rattle.run_command.proofs.options.generated.Goals as goal

pub returns-then-is_some : goal.returns-then-is_some
returns-then-is_some c =
    let given : is_some (first_value (found_of c.args.matches.now) (codes "prelude")) ≡ true = search rules in
    sym (prelude_generates_none (rows_of (found_of c.args.matches.now)) (is_given (found_of c.args.matches.now) (codes "prelude") given))

pub returns : goal.returns
returns c =
    let f = found_of c.args.matches.now in
    let none : is_some (first_value f (codes "prelude")) ≡ false = search rules in
    let empty : length (files_in (rows_of f)) ≤ 0 = omega (arith, c.file_count.ensures, c.if-file_count-gt0.false) in
    sym (generates (rows_of f) c.number_in.result (not_given f (codes "prelude") none) empty (sym c.number_in.ensures))
