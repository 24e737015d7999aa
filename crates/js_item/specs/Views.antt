-- What an item and the members of an object hold.
use Rattle.std.specs.Prelude.{List, [], ◌∷◌}
use Rattle.js_item.specs.Contents.{Content, undefined, null, bool, number, text, symbol, list, object}
use Rattle.js_item.specs.Contents.{Fields, no_fields, field}
use Rattle.js_item.specs.declared.item.Item.{Item}
use Rattle.js_item.specs.declared.item.Item.TheVariants as item
use Rattle.js_item.specs.declared.item.Member.{Member}

abbrev pub content_of : {R : Type 0} → Item R → Content R
content_of item.Undefined = undefined
content_of item.Null = null
content_of (item.Bool b) = bool b
content_of (item.Number n) = number n
content_of (item.Text r) = text r
content_of (item.Symbol r) = symbol r
content_of (item.List v) = list v.items
content_of (item.Object fs) = object fs

abbrev pub fields_of : {R : Type 0} → List (Member R) → Fields R
fields_of [] = no_fields
fields_of (m ∷ ms) = field m.key (content_of m.value) (fields_of ms)
