-- What items denote in a store: contents whose strings are lists of units.
use Rattle.std.specs.Prelude.{ℕ, List, map}
use Rattle.js_store.specs.State.{State, text as text_of}
use Rattle.js_item.specs.Contents.{Content, undefined, null, bool, number, text, symbol, list, object}
use Rattle.js_item.specs.Contents.{Fields, no_fields, field}
use Rattle.js_item.specs.declared.item.Item.{Item}
use Rattle.js_item.specs.Views.{content_of}

-- the units of a reference
abbrev pub says : {F R : Type 0} → State F → (R → ℕ) → R → List ℕ
says s name r = text_of s (name r)

-- the same content with each reference as what f makes of it
abbrev mutual
  pub content_mapped : {R Q : Type 0} → (R → Q) → Content R → Content Q
  content_mapped f undefined = undefined
  content_mapped f null = null
  content_mapped f (bool b) = bool b
  content_mapped f (number n) = number n
  content_mapped f (text r) = text (f r)
  content_mapped f (symbol r) = symbol (f r)
  content_mapped f (list rs) = list (map f rs)
  content_mapped f (object fs) = object (fields_mapped f fs)

  pub fields_mapped : {R Q : Type 0} → (R → Q) → Fields R → Fields Q
  fields_mapped f no_fields = no_fields
  fields_mapped f (field key value rest) = field (f key) (content_mapped f value) (fields_mapped f rest)

-- the values of the language
abbrev pub Val : Type 0
Val = Content (List ℕ)

abbrev pub seen : {F R : Type 0} → State F → (R → ℕ) → Item R → Val
seen s name v = content_mapped (says s name) (content_of v)
