-- What each kind of operation needs of a store at most: ids, and content words. The meaning names the row of
-- each operation, and this table alone says what a row comes to.
use Rattle.std.specs.Prelude.{ℕ, suc, zero, ◌+◌, ◌*◌}

-- `reads t`: a literal, a ToString or an operation of one part, whose string operands and results have t
-- units together; `joins`: two strings joined, by `+` or for one argument of `concat`; `parts p t`: an
-- operation of p parts; `repeats n`: `repeat`, of a string of n units; `pads n`: a pad, of a string and a
-- filler of n units together
pub data Row : Type 0 where
  nothing : Row
  reads : ℕ → Row
  joins : Row
  parts : ℕ → ℕ → Row
  repeats pads : ℕ → Row

-- no parts count as one
abbrev pub some_parts : ℕ → ℕ
some_parts zero = 1
some_parts (suc p) = suc p

abbrev pub ids_in : Row → ℕ
ids_in nothing = 0
ids_in (reads t) = 8
ids_in joins = 8
ids_in (parts p t) = 4 * some_parts p + 4
ids_in (repeats n) = 96
ids_in (pads n) = 128

abbrev pub words_in : Row → ℕ
words_in nothing = 0
words_in (reads t) = 2 * t + 24
words_in joins = 24
words_in (parts p t) = 2 * t + 8 * some_parts p + 16
words_in (repeats n) = 2 * n + 512
words_in (pads n) = 2 * n + 1024
