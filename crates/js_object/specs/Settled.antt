-- Which strings are settled once an object was serialized as JSON text: those of its values, at every level.
-- Its keys are settled before.
use Rattle.std.specs.Prelude.{ℕ}
use Rattle.js_store.specs.State.{State, IsSettled}
use Rattle.js_texts.specs.Texts.{AllSettled}
use Rattle.js_item.specs.Contents.{Content, undefined, null, bool, number, text, symbol, list, object}
use Rattle.js_item.specs.Contents.{Fields, no_fields, field}

abbrev mutual
  pub SettledIn : {F R : Type 0} → State F → (R → ℕ) → Content R → Type 0
  SettledIn s name undefined = Unit {0}
  SettledIn s name null = Unit {0}
  SettledIn s name (bool b) = Unit {0}
  SettledIn s name (number n) = Unit {0}
  SettledIn s name (text r) = IsSettled s (name r)
  SettledIn s name (symbol r) = Unit {0}
  SettledIn s name (list rs) = AllSettled s name rs
  SettledIn s name (object fs) = SettledFields s name fs

  pub SettledFields : {F R : Type 0} → State F → (R → ℕ) → Fields R → Type 0
  SettledFields s name no_fields = Unit {0}
  SettledFields s name (field key value rest) = SettledIn s name value × SettledFields s name rest
