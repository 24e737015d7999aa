-- What reading the strings of items uses at most: keys are settled, so that they use nothing.
use Rattle.std.specs.Prelude.{ℕ, ◌+◌, length}
use Rattle.js_store.specs.State.{State, text as text_of}
use Rattle.js_store.specs.Rows.{settle_words}
use Rattle.js_texts.specs.Texts.{settle_most}
use Rattle.js_item.specs.Contents.{Content, undefined, null, bool, number, text, symbol, list, object}
use Rattle.js_item.specs.Contents.{Fields, no_fields, field}

abbrev mutual
  pub settle_in : {F R : Type 0} → State F → (R → ℕ) → Content R → ℕ
  settle_in s name undefined = 0
  settle_in s name null = 0
  settle_in s name (bool b) = 0
  settle_in s name (number n) = 0
  settle_in s name (text r) = settle_words (s.settled (name r)) (length (text_of s (name r)))
  settle_in s name (symbol r) = 0
  settle_in s name (list rs) = settle_most s name rs
  settle_in s name (object fs) = settle_fields s name fs

  pub settle_fields : {F R : Type 0} → State F → (R → ℕ) → Fields R → ℕ
  settle_fields s name no_fields = 0
  settle_fields s name (field key value rest) = settle_in s name value + settle_fields s name rest
