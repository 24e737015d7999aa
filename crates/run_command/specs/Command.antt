-- The command: its options with their defaults, and the arguments that name files.
use Rattle.std.specs.Prelude.{[], ◌∷◌, Some, codes, fold, pos}
use Rattle.clap.specs.declared.builder.action.ArgAction.TheVariants.{Append, SetTrue}
use Rattle.clap.specs.declared.builder.value_parser.ValueParser.TheVariants as parser
use Rattle.clap.specs.Words.{App, Rule, Text, new_app, new_rule, with_rule}

-- `--NAME VALUE` or `--NAME=VALUE`
abbrev pub option_rule : Text → Rule
option_rule name = record (new_rule name) { long = Some name }

-- the same, where the value is a number of 32 bits
abbrev pub number_rule : Text → Rule
number_rule name = record (option_rule name) { parser = Some (parser.Signed (pos 0) (pos 4294967295)) }

-- the same, with the value that it has where the arguments give none
abbrev pub defaulted_rule : Text → Text → Rule
defaulted_rule name value = record (number_rule name) { defaults = value ∷ [] }

-- the command: `--prelude FILE`; `--jobs N`, the sizes of the heap and `--limit N`, with their defaults;
-- `--summary`; `--generate N`; arguments that name files, each of them one value of `FILE`; and what a
-- command of clap has by itself, `-h`, `--help` and `--`
abbrev pub command : App
command = fold with_rule (new_app (codes "jsstr")) (option_rule (codes "prelude") ∷
    defaulted_rule (codes "jobs") (codes "4") ∷ defaulted_rule (codes "ids") (codes "262144") ∷
    defaulted_rule (codes "heap-words") (codes "4194304") ∷ defaulted_rule (codes "slots") (codes "65536") ∷
    record (option_rule (codes "summary")) { action = Some SetTrue } ∷ number_rule (codes "generate") ∷
    defaulted_rule (codes "limit") (codes "64") ∷
    record (new_rule (codes "FILE")) { action = Some Append } ∷ [])
