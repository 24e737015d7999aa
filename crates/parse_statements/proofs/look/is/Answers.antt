use Rattle.parse_statements.proofs.look.is.Goals as goal

pub returns-in-Word : goal.returns-in-Word
returns-in-Word c = c.is_word.ensures c.args.token c.in-Word.field-1 c.in-Word.is
