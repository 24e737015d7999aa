-- Helpers: no public contract reaches these definitions.
-- The command's arguments, one function's at a time, for the contracts of private functions.
use Rattle.std.specs.Prelude.{List, [], ◌∷◌, Some, codes}
use Rattle.clap.specs.declared.builder.action.ArgAction.TheVariants.{Append, SetTrue}
use Rattle.clap.specs.Words.{Rule, Text, new_rule}
use Rattle.run_command.specs.Command.{option_rule, number_rule, defaulted_rule}

-- `--NAME`
abbrev pub flag_rule : Text → Rule
flag_rule name = record (option_rule name) { action = Some SetTrue }

-- arguments that name files, each of them one value of `FILE`
abbrev pub file_rule : Rule
file_rule = record (new_rule (codes "FILE")) { action = Some Append }

-- `--prelude FILE`, and `--jobs N`, which is 4 by default
abbrev pub job_rules : List Rule
job_rules = option_rule (codes "prelude") ∷ defaulted_rule (codes "jobs") (codes "4") ∷ []

-- `--ids N`, `--heap-arguments N` and `--slots N`, with their defaults
abbrev pub size_rules : List Rule
size_rules = defaulted_rule (codes "ids") (codes "262144") ∷
    defaulted_rule (codes "heap-words") (codes "4194304") ∷
    defaulted_rule (codes "slots") (codes "65536") ∷ []

-- `--summary`, `--generate N`, and `--limit N`, which is 64 by default
abbrev pub other_rules : List Rule
other_rules = flag_rule (codes "summary") ∷ number_rule (codes "generate") ∷
    defaulted_rule (codes "limit") (codes "64") ∷ []
