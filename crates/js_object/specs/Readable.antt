-- When an item may be serialized as JSON text.
use Rattle.std.specs.Prelude.{ℕ}
use Rattle.js_number.specs.Places.{IsLawful}
use Rattle.js_texts.specs.Texts.{Every}
use Rattle.js_item.specs.Contents.{Content, undefined, null, bool, number, text, symbol, list, object}
use Rattle.js_item.specs.Contents.{Fields, no_fields, field}
use Rattle.js_item.specs.Fine.{KnownStrings, TextFine, KeyFine}

-- valid numbers, known strings, and keys that are interned and settled, at every level
abbrev mutual
  pub Readable : {R : Type 0} → KnownStrings → (R → ℕ) → Content R → Type 0
  Readable s name undefined = Unit {0}
  Readable s name null = Unit {0}
  Readable s name (bool b) = Unit {0}
  Readable s name (number n) = IsLawful n
  Readable s name (text r) = TextFine s (name r)
  Readable s name (symbol r) = TextFine s (name r)
  Readable s name (list rs) = Every (λ r. TextFine s (name r)) rs
  Readable s name (object fs) = ReadableFields s name fs

  pub ReadableFields : {R : Type 0} → KnownStrings → (R → ℕ) → Fields R → Type 0
  ReadableFields s name no_fields = Unit {0}
  ReadableFields s name (field key value rest) =
      KeyFine s (name key) × Readable s name value × ReadableFields s name rest
