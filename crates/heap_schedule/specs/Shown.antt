-- What is shown of a play: a line for each word that was found, and then a line for each string.
use Rattle.std.specs.Prelude.{ℕ, zero, suc, ◌+◌, ◌/◌, ◌%◌, ◌==◌, nat_lt, if◌then◌else◌, List, [], ◌∷◌, ◌++◌}
use Rattle.std.specs.Prelude.{codes, decimal, length, slice_index}
use Rattle.heap_rule.specs.Layout.{form}
use Rattle.heap_rule.specs.Contents.{units_of}
use Rattle.heap_core.specs.Core.{Core}

-- `K found WORD`
abbrev pub found_line : ℕ → ℕ → List ℕ
found_line k x = decimal k ++ (codes " found " ++ (decimal x ++ codes "\n"))

-- of the first n words; the event behind the making is on line 2
abbrev pub found_lines : List ℕ → ℕ → List ℕ
found_lines xs zero = []
found_lines xs (suc n) = found_lines xs n ++ found_line (n + 2) (slice_index xs n)

-- a unit as a space and four hexadecimal digits
abbrev pub hex_digit : ℕ → ℕ
hex_digit n = if nat_lt n 10 then 48 + n else 87 + n

abbrev pub unit_text : ℕ → List ℕ
unit_text u =
    32 ∷ hex_digit (u / 4096) ∷ hex_digit (u / 256 % 16) ∷ hex_digit (u / 16 % 16) ∷ hex_digit (u % 16) ∷ []

abbrev pub unit_texts : List ℕ → List ℕ
unit_texts [] = []
unit_texts (u ∷ us) = unit_text u ++ unit_texts us

-- `id I:` and the units
abbrev pub string_line : ℕ → List ℕ → List ℕ
string_line i us = codes "id " ++ (decimal i ++ (codes ":" ++ (unit_texts us ++ codes "\n")))

abbrev pub line_of_id : Core → ℕ → List ℕ
line_of_id s i = if form s.size s.words i == 0 then [] else string_line i (units_of s.size s.words i)

-- of the born ids below n
abbrev pub string_lines : Core → ℕ → List ℕ
string_lines s zero = []
string_lines s (suc n) = string_lines s n ++ line_of_id s n

abbrev pub shown_lines : Core → List ℕ → List ℕ
shown_lines s xs = found_lines xs (length xs) ++ string_lines s s.size.ids
