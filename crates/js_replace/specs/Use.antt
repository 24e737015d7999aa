-- What the calls use at most, as functions of their operands and results.
use Rattle.std.specs.Prelude.{ℕ, ◌+◌, List, [], ◌∷◌, length, Option, Some, None}
use Rattle.js_store.specs.State.{State, text}
use Rattle.js_store.specs.Rows.{copy_words}
use Rattle.js_replace.specs.Parts.{parts}
use Rattle.js_texts.specs.Use.{settling}

-- copies of several lists
abbrev pub copies_words : List (List ℕ) → ℕ
copies_words [] = 0
copies_words (u ∷ us) = copy_words (length u) + copies_words us

-- splitting: without a separator nothing, since the string itself is the one part;
-- else both are settled and each part is a copy
abbrev pub split_ids : {F R : Type 0} → State F → (R → ℕ) → R → Option R → ℕ → ℕ
split_ids s name r None limit = 0
split_ids s name r (Some sep) limit = length (parts (text s (name r)) (Some (text s (name sep))) limit)

abbrev pub split_words : {F R : Type 0} → State F → (R → ℕ) → R → Option R → ℕ → ℕ
split_words s name r None limit = 0
split_words s name r (Some sep) limit = settling s (name r) + settling s (name sep) + copies_words
    (parts (text s (name r)) (Some (text s (name sep))) limit)
