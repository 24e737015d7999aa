-- The reports of the faults of literals.
use Rattle.std.specs.Prelude.{ℕ, List, codes}
use Rattle.js_literal.specs.declared.fault.LiteralFault.{LiteralFault}
use Rattle.js_literal.specs.declared.fault.LiteralFault.TheVariants as literal
use Rattle.js_literal.specs.declared.fault.NumberFault.{NumberFault}
use Rattle.js_literal.specs.declared.fault.NumberFault.TheVariants as number

-- the byte offset at which the fault of a string literal is reported, 0 where memory ran out, and the message
abbrev pub literal_report : LiteralFault → ℕ × List ℕ
literal_report (literal.Unclosed at) = (at, codes "unclosed string")
literal_report (literal.RawLineEnd at) = (at, codes "line end in string")
literal_report (literal.BadEscape at) = (at, codes "bad escape")
literal_report (literal.CodePointTooLarge at) = (at, codes "code point too large")
literal_report (literal.LegacyOctal at) = (at, codes "legacy octal")
literal_report literal.Memory = (0, codes "out of memory")

-- the byte offset of the number's first character, and the message with which its fault is reported
abbrev pub number_report : NumberFault → ℕ × List ℕ
number_report (number.Fraction at) = (at, codes "fraction")
number_report (number.OtherForm at) = (at, codes "number form")
number_report (number.TooLarge at) = (at, codes "number too large")
