-- The report of a lexical fault.
use Rattle.std.specs.Prelude.{ℕ, List, codes}
use Rattle.js_literal.specs.Faults.{literal_report, number_report}
use Rattle.js_lex.specs.declared.token.LexFault.{LexFault}
use Rattle.js_lex.specs.declared.token.LexFault.TheVariants as lexical

-- the byte offset at which a lexical fault is reported, 0 where memory ran out, and the message
abbrev pub lexical_report : LexFault → ℕ × List ℕ
lexical_report (lexical.NotUtf8 at) = (at, codes "not utf-8")
lexical_report (lexical.BadCharacter at) = (at, codes "bad character")
lexical_report (lexical.OpenComment at) = (at, codes "open comment")
lexical_report (lexical.Literal f) = literal_report f
lexical_report (lexical.Number f) = number_report f
lexical_report lexical.Memory = (0, codes "out of memory")
