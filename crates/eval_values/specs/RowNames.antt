-- Helpers: no public contract reaches these definitions.
-- The entries of the table of needs by names, for the contracts of private functions and for proofs.
use Rattle.std.specs.Prelude.{ℕ}
use Rattle.eval_values.specs.Need.{reads, joins, parts, repeats, pads, ids_in, words_in}

abbrev pub row_ids : ℕ
row_ids = ids_in (reads 0)

abbrev pub row_words : ℕ → ℕ
row_words t = words_in (reads t)

abbrev pub joins_ids : ℕ
joins_ids = ids_in joins

abbrev pub joins_words : ℕ
joins_words = words_in joins

abbrev pub parts_ids : ℕ → ℕ
parts_ids p = ids_in (parts p 0)

abbrev pub parts_words : ℕ → ℕ → ℕ
parts_words p t = words_in (parts p t)

abbrev pub repeat_ids : ℕ
repeat_ids = ids_in (repeats 0)

abbrev pub repeat_words : ℕ → ℕ
repeat_words n = words_in (repeats n)

abbrev pub pad_ids : ℕ
pad_ids = ids_in (pads 0)

abbrev pub pad_words : ℕ → ℕ
pad_words n = words_in (pads n)
