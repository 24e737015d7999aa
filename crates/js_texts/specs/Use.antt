-- What the calls use at most, as functions of their operands and results.
use Rattle.std.specs.Prelude.{ℕ, List, length, nat_lt, if◌then◌else◌}
use Rattle.js_store.specs.State.{State, text}
use Rattle.js_store.specs.Rows.{settle_words, flat_words}

-- settling one string
abbrev pub settling : {F : Type 0} → State F → ℕ → ℕ
settling s n = settle_words (s.settled n) (length (text s n))

-- the id and the words of a new string of these units; nothing is made of units that are more than the limit
abbrev pub made_ids : ℕ → List ℕ → ℕ
made_ids limit u = if nat_lt limit (length u) then 0 else 1

abbrev pub made_words : ℕ → List ℕ → ℕ
made_words limit u = if nat_lt limit (length u) then 0 else flat_words u
