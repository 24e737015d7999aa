use Rattle.std.proofs.Common.{rules, ◌≡◌, ◌∙◌, codes, false, unwrap_or}
use Rattle.clap.specs.Words.{found_of}
use Rattle.run_command.proofs.Reading.{flag_read}
use Rattle.run_command.proofs.options.summary_in.Goals as goal

pub returns : goal.returns
returns c =
    let is : c.unwrap_or.result ≡ unwrap_or c.get_one.result false = search rules in
    is ∙ flag_read _ (found_of c.args.matches.now) (codes "summary") c.get_one.result c.get_one.ensures.none c.get_one.ensures.value
